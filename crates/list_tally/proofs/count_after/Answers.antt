-- `list_tally::count_after` meets its contract.
use borrow.Author.Tests.{le-leb, lt-leb, lt-ltb, le-ltb}
use mathlib.Core.Path.{sym}
use native.Mathlib.Nat.{add-zero}
use Rattle.list_tally.proofs.count_after.Goals as goal

pub returns-then-status-gt-HIGHEST_STATUS : goal.returns-then-status-gt-HIGHEST_STATUS
returns-then-status-gt-HIGHEST_STATUS c = simp (lt-leb _ _ c.if-status-gt-HIGHEST_STATUS.true) (sym (add-zero _))

pub returns-then-n-lt-FULLEST : goal.returns-then-n-lt-FULLEST
returns-then-n-lt-FULLEST c = simp (le-leb _ _ c.if-status-gt-HIGHEST_STATUS.false, lt-ltb _ _ c.if-n-lt-FULLEST.true)

pub returns-else-n-lt-FULLEST : goal.returns-else-n-lt-FULLEST
returns-else-n-lt-FULLEST c = simp (le-leb _ _ c.if-status-gt-HIGHEST_STATUS.false, le-ltb _ _ c.if-n-lt-FULLEST.false) (sym (add-zero _))
