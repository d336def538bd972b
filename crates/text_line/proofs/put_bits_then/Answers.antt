-- `text_line::put_bits_then` meets its contract.
use Rattle.lent.specs.laws.Writing.{after, same}
use Rattle.text_line.specs.rules.Line.{bits_then}
use Rattle.text_line.proofs.put_bits_then.Goals as goal

pub returns : goal.returns
unfolding bits_then
returns c =
    same (simp c.pattern.ensures) (after c.put_hex16-a.ensures c.put_byte.ensures)
