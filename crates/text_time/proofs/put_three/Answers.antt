-- `text_time::put_three` meets its contract.
use borrow.Author.Tests.{lt-ltb, le-ltb}
use Rattle.lent.specs.laws.Writing.{after, same}
use Rattle.text_time.specs.rules.Time.{three_digits}
use Rattle.text_time.proofs.put_three.Goals as goal

pub returns-then-n-lt100 : goal.returns-then-n-lt100
unfolding three_digits
returns-then-n-lt100 c =
    same (simp (lt-ltb _ _ c.if-n-lt100.true)) (after c.put_byte-a.ensures c.put_two.ensures)

pub returns : goal.returns
unfolding three_digits
returns c = same (simp (le-ltb _ _ c.if-n-lt100.false)) c.put_decimal.ensures
