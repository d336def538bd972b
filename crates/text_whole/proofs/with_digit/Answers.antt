-- `text_whole::with_digit` meets its contract.
use borrow.Author.Tests.{le-leb, lt-leb}
use Rattle.text_whole.specs.rules.Unsigned.{with_digit}
use Rattle.text_whole.proofs.with_digit.Goals as goal

pub returns-then-whole-gt-MOST : goal.returns-then-whole-gt-MOST
unfolding with_digit
returns-then-whole-gt-MOST c = simp (lt-leb _ _ c.if-whole-gt-MOST.true) c.unclear.ensures

pub returns : goal.returns
unfolding with_digit
returns c = simp (le-leb _ _ c.if-whole-gt-MOST.false)
