-- `report_mean::put_none_agree` meets its contract.
use Rattle.lent.specs.laws.Writing.{after}
use Rattle.report_mean.specs.rules.Text.{none_agree_text}
use Rattle.report_mean.proofs.put_none_agree.Goals as goal

pub returns : goal.returns
unfolding none_agree_text
returns c =
    after c.put-a.ensures c.put_rows.ensures
