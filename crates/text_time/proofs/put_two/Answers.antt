-- `text_time::put_two` meets its contract.
use borrow.Author.Tests.{lt-ltb, le-ltb}
use Rattle.lent.specs.laws.Writing.{after, same}
use Rattle.text_time.specs.rules.Time.{two_digits}
use Rattle.text_time.proofs.put_two.Goals as goal

pub returns-then-n-lt10 : goal.returns-then-n-lt10
unfolding two_digits
returns-then-n-lt10 c =
    same (simp (lt-ltb _ _ c.if-n-lt10.true)) (after c.put_byte-a.ensures c.put_decimal.ensures)

pub returns : goal.returns
unfolding two_digits
returns c = same (simp (le-ltb _ _ c.if-n-lt10.false)) c.put_decimal-2.ensures
