-- `report_mean::put_refused` meets its contract.
use Rattle.lent.specs.laws.Writing.{after}
use Rattle.report_mean.specs.rules.Refused.{refused_text}
use Rattle.report_mean.proofs.put_refused.Goals as goal

pub returns : goal.returns
unfolding refused_text
returns c =
    after c.put_refusal-a.ensures (after c.put_sight_of-b.ensures c.put_byte.ensures)
