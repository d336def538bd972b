-- `precess_ecl::new_inclination` meets its contract.
use Rattle.std.proofs.Common.{rules}
use Rattle.quantity.specs.rules.Answer.{then}
use Rattle.precess_ecl.specs.rules.Orbit.{new_inclination}
use Rattle.precess_ecl.proofs.new_inclination.Goals as goal

pub returns-then-inc : goal.returns-then-inc
unfolding new_inclination
returns-then-inc c = rw c.if-inc.true

pub returns-in_err-s : goal.returns-in_err-s
unfolding new_inclination then
returns-in_err-s c = search rules

pub returns : goal.returns
unfolding new_inclination then
returns c = search rules
