-- `list::is_list` meets its contract.
use borrow.Author.Tests.{lt-leb, le-leb}
use Rattle.list.specs.rules.Stars.{is_list}
use Rattle.list.proofs.is_list.Goals as goal

pub returns-then-bytes-le-MOST_BYTES : goal.returns-then-bytes-le-MOST_BYTES
unfolding is_list
returns-then-bytes-le-MOST_BYTES c = simp (le-leb _ _ c.if-bytes-le-MOST_BYTES.true)

pub returns-else-bytes-le-MOST_BYTES : goal.returns-else-bytes-le-MOST_BYTES
unfolding is_list
returns-else-bytes-le-MOST_BYTES c = simp (lt-leb _ _ c.if-bytes-le-MOST_BYTES.false)
