-- `helpers::angle::limited` meets its contract.
use Rattle.helpers.specs.rules.Angle.{limited}
use Rattle.helpers.proofs.angle.limited.Goals as goal

pub returns-then-r : goal.returns-then-r
unfolding limited
returns-then-r c = rw (← c.remainder-r.ensures, c.if-r.true)

pub returns-else-r : goal.returns-else-r
unfolding limited
returns-else-r c = rw (← c.remainder-r.ensures, c.if-r.false)
