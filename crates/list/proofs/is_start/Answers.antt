-- `list::is_start` meets its contract.
use borrow.Author.Tests.{lt-ltb, le-ltb}
use Rattle.list.specs.rules.Writer.{is_start}
use Rattle.list.proofs.is_start.Goals as goal

pub returns-then-offset-lt-MOST_BYTES : goal.returns-then-offset-lt-MOST_BYTES
unfolding is_start
returns-then-offset-lt-MOST_BYTES c = simp (lt-ltb _ _ c.if-offset-lt-MOST_BYTES.true)

pub returns-else-offset-lt-MOST_BYTES : goal.returns-else-offset-lt-MOST_BYTES
unfolding is_start
returns-else-offset-lt-MOST_BYTES c = simp (le-ltb _ _ c.if-offset-lt-MOST_BYTES.false)
