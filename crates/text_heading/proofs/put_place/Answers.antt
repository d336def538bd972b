-- `text_heading::put_place` meets its contract.
use Rattle.lent.specs.laws.Writing.{after}
use Rattle.text_heading.specs.rules.Place.{place_text}
use Rattle.text_heading.proofs.put_place.Goals as goal

pub returns : goal.returns
unfolding place_text
returns c =
    after c.put-a.ensures (after c.put_coordinate-b.ensures (after c.put-c.ensures (after c.put_coordinate-d.ensures c.put_byte.ensures)))
