-- `units::has_minus` meets its contract.
use Rattle.units.proofs.has_minus.Goals as goal

pub returns-then-y : goal.returns-then-y
returns-then-y c = simp c.if-y.true

pub returns : goal.returns
returns c = simp c.if-y.false
