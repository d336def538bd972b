-- `text_number::put_signed` meets its contract.
use Rattle.lent.specs.laws.Writing.{after, same}
use Rattle.text_number.proofs.put_signed.Goals as goal

pub returns-then-minus : goal.returns-then-minus
returns-then-minus c =
    same (simp c.if-minus.true) (after c.put_byte-a.ensures c.put_decimal.ensures)
