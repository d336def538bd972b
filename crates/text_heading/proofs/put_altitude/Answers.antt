-- `text_heading::put_altitude` meets its contract.
use Rattle.lent.specs.laws.Writing.{after}
use Rattle.text_heading.specs.rules.Altitude.{altitude_text}
use Rattle.text_heading.proofs.put_altitude.Goals as goal

pub returns : goal.returns
unfolding altitude_text
returns g c =
    after c.put_angle-a.ensures (after c.put_seen-b.ensures (after c.put_remark-c.ensures c.put_byte.ensures))
