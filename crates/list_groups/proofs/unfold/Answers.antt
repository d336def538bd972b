-- `list_groups::unfold` meets its contract.
use Rattle.list_groups.proofs.Halves.{even, odd_fits, odd}
use Rattle.list_groups.proofs.unfold.Goals as goal

pub overflow_sub-result : goal.overflow_sub-result
overflow_sub-result c = odd_fits _ c.ranges.n.fits

pub returns-then-n-eq0 : goal.returns-then-n-eq0
returns-then-n-eq0 c = even _ c.ranges.n.fits c.if-n-eq0.true

pub returns-else-n-eq0 : goal.returns-else-n-eq0
returns-else-n-eq0 c = odd _ c.ranges.n.fits c.if-n-eq0.false
