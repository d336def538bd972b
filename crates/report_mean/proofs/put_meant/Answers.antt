-- `report_mean::put_meant` meets its contract.
use Rattle.lent.specs.laws.Writing.{after}
use Rattle.report_mean.specs.rules.Text.{meant_text}
use Rattle.report_mean.proofs.put_meant.Goals as goal

pub returns : goal.returns
unfolding meant_text
returns c =
    after c.put_place-a.ensures
    (after c.put_edition-b.ensures
    (after (rw c.reference_place-k.ensures at c.put_rows-c.ensures)
    (after c.put_mean-d.ensures c.put_open.ensures)))
