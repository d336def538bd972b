-- `double::size` meets its contract; that the format holds x is what owning an `f64` tells.
use Rattle.std.proofs.Common.{T, sym, subst}
use Rattle.double.specs.laws.Exact.{size_larger}
use Rattle.double.proofs.size.Goals as goal

pub returns-then-x-y : goal.returns-then-x-y
returns-then-x-y c = rw c.if-x-y.true at (size_larger c.args.x (subst T (sym c.well_formed.0.1) tt))

pub returns-else-x-y : goal.returns-else-x-y
returns-else-x-y c = rw c.if-x-y.false at (size_larger c.args.x (subst T (sym c.well_formed.0.1) tt))
