-- `list_tally::count_of` meets its contract.
use borrow.Author.Tests.{le-leb, lt-leb}
use Rattle.list_tally.proofs.count_of.Goals as goal

pub returns-then-status-le-HIGHEST_STATUS : goal.returns-then-status-le-HIGHEST_STATUS
returns-then-status-le-HIGHEST_STATUS c = simp (le-leb _ _ c.if-status-le-HIGHEST_STATUS.true)

pub returns-else-status-le-HIGHEST_STATUS : goal.returns-else-status-le-HIGHEST_STATUS
returns-else-status-le-HIGHEST_STATUS c = simp (lt-leb _ _ c.if-status-le-HIGHEST_STATUS.false)
