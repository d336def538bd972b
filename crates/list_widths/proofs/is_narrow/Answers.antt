-- `list_widths::is_narrow` meets its contract.
use borrow.Author.Tests.{lt-leb, le-leb}
use Rattle.list_widths.specs.rules.Narrow.{is_narrow}
use Rattle.list_widths.proofs.is_narrow.Goals as goal

pub returns-then-bytes-le-MOST_NARROW_BYTES : goal.returns-then-bytes-le-MOST_NARROW_BYTES
unfolding is_narrow
returns-then-bytes-le-MOST_NARROW_BYTES c = simp (le-leb _ _ c.if-bytes-le-MOST_NARROW_BYTES.true)

pub returns-else-bytes-le-MOST_NARROW_BYTES : goal.returns-else-bytes-le-MOST_NARROW_BYTES
unfolding is_narrow
returns-else-bytes-le-MOST_NARROW_BYTES c = simp (lt-leb _ _ c.if-bytes-le-MOST_NARROW_BYTES.false)
