-- `residual_sheet::place_after` meets its contract.
use borrow.Author.Tests.{eq-eqb, ne_eqb, lt-ltb, le-ltb}
use Rattle.residual_sheet.proofs.place_after.Goals as goal

pub returns-then-count-eq0 : goal.returns-then-count-eq0
returns-then-count-eq0 c = rw (eq-eqb _ _ c.if-count-eq0.true)

pub returns-then-largest-n : goal.returns-then-largest-n
returns-then-largest-n c = rw (ne_eqb _ _ c.if-count-eq0.false, lt-ltb _ _ c.if-largest-n.true)

pub returns-else-largest-n : goal.returns-else-largest-n
returns-else-largest-n c = rw (ne_eqb _ _ c.if-count-eq0.false, le-ltb _ _ c.if-largest-n.false)
