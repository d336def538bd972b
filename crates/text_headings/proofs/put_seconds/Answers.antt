-- `text_headings::put_seconds` meets its contract.
use Rattle.lent.specs.laws.Writing.{after}
use Rattle.text_headings.specs.rules.Sight.{seconds_text}
use Rattle.text_headings.proofs.put_seconds.Goals as goal

pub returns : goal.returns
unfolding seconds_text
returns c =
    after c.put_decimal-a.ensures (after c.put_byte-b.ensures (after c.put_three-c.ensures c.put_byte.ensures))
