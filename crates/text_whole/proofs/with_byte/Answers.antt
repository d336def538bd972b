-- `text_whole::with_byte` meets its contract.
use borrow.Author.Tests.{le-leb, lt-leb}
use Rattle.text_whole.specs.rules.Unsigned.{with_byte}
use Rattle.text_whole.proofs.with_byte.Goals as goal

pub returns-then-b-lt48 : goal.returns-then-b-lt48
unfolding with_byte
returns-then-b-lt48 c = simp (lt-leb _ _ c.if-b-lt48.true) c.unclear.ensures

pub returns-then-b-gt57 : goal.returns-then-b-gt57
unfolding with_byte
returns-then-b-gt57 c = simp (le-leb _ _ c.if-b-lt48.false, lt-leb _ _ c.if-b-gt57.true) c.unclear-then-b-gt57.ensures

pub returns : goal.returns
unfolding with_byte
returns c = simp (le-leb _ _ c.if-b-lt48.false, le-leb _ _ c.if-b-gt57.false) c.with_digit.ensures
