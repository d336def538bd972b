-- `text_date::digit` meets its contract.
use borrow.Author.Tests.{le-leb, lt-leb}
use Rattle.text_date.specs.rules.Digits.{digit_of}
use Rattle.text_date.proofs.digit.Goals as goal

pub returns-then-b-lt48-clause-says : goal.returns-then-b-lt48-clause-says
unfolding digit_of
returns-then-b-lt48-clause-says c = simp (lt-leb _ _ c.if-b-lt48.true)

pub returns-then-b-gt57-clause-says : goal.returns-then-b-gt57-clause-says
unfolding digit_of
returns-then-b-gt57-clause-says c = simp (le-leb _ _ c.if-b-lt48.false, lt-leb _ _ c.if-b-gt57.true)

pub returns-clause-says : goal.returns-clause-says
unfolding digit_of
returns-clause-says c = simp (le-leb _ _ c.if-b-lt48.false, le-leb _ _ c.if-b-gt57.false)
