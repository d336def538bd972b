-- `precess_ecl::orbit_in` meets its contract.
use Rattle.std.proofs.Common.{rules}
use Rattle.quantity.specs.rules.Answer.{then}
use Rattle.precess_ecl.specs.rules.Orbit.{orbit_in}
use Rattle.precess_ecl.proofs.orbit_in.Goals as goal

pub returns-in_err-i : goal.returns-in_err-i
unfolding orbit_in then
returns-in_err-i c = search rules

pub returns : goal.returns
unfolding orbit_in then
returns c = search rules
