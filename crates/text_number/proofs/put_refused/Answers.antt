-- `text_number::put_refused` meets its contract.
use mathlib.Core.List.{append_assoc}
use Rattle.lent.specs.laws.Writing.{after, same}
use Rattle.text_number.specs.rules.Refused.{refused_text}
use Rattle.text_number.proofs.put_refused.Goals as goal

pub returns : goal.returns
unfolding refused_text
returns c =
    same (simp append_assoc) (after (after c.put-a.ensures c.put_decimal-b.ensures) c.put_byte.ensures)
