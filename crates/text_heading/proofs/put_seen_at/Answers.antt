-- `text_heading::put_seen_at` meets its contract.
use Rattle.lent.specs.laws.Writing.{after, same}
use Rattle.text_heading.specs.rules.Altitude.{seen_at}
use Rattle.text_heading.proofs.put_seen_at.Goals as goal

pub returns : goal.returns
unfolding seen_at
returns c =
    same (rw c.tenths_of.ensures) (after c.put-a.ensures c.put_arc.ensures)
