-- `text_ceiling::put_bits` meets its contract.
use Rattle.lent.specs.laws.Writing.{after, same}
use Rattle.text_ceiling.specs.rules.Text.{bits_text}
use Rattle.text_ceiling.proofs.put_bits.Goals as goal

pub returns : goal.returns
unfolding bits_text
returns c =
    same (simp (c.pattern-2.ensures, c.pattern.ensures))
    (after c.put_hex16-a.ensures (after c.put_byte-b.ensures (after c.put_hex16-c.ensures c.put_byte.ensures)))
