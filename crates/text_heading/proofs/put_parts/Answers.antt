-- `text_heading::put_parts` meets its contract.
use Rattle.lent.specs.laws.Writing.{after}
use Rattle.text_heading.specs.rules.Place.{parts_text}
use Rattle.text_heading.proofs.put_parts.Goals as goal

pub returns : goal.returns
unfolding parts_text
returns c =
    after c.put_decimal-a.ensures (after c.put_byte-b.ensures (after c.put_two-c.ensures (after c.put_byte-d.ensures c.put_byte.ensures)))
