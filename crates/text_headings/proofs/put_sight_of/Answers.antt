-- `text_headings::put_sight_of` meets its contract.
use Rattle.lent.specs.laws.Writing.{after}
use Rattle.text_headings.specs.rules.Sight.{sight_of}
use Rattle.text_headings.proofs.put_sight_of.Goals as goal

pub returns : goal.returns
unfolding sight_of
returns c =
    after c.put-a.ensures (after c.put_decimal-b.ensures (after c.put-c.ensures c.put_decimal.ensures))
