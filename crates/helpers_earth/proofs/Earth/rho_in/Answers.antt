-- `helpers_earth::Earth::rho_in` meets its contract.
use Rattle.std.proofs.Common.{rules}
use Rattle.quantity.specs.rules.Answer.{then}
use Rattle.helpers_earth.specs.rules.Earth.{rho_in}
use Rattle.helpers_earth.proofs.Earth.rho_in.Goals as goal

pub returns-in_err-u : goal.returns-in_err-u
unfolding rho_in then
returns-in_err-u c = search rules

pub returns : goal.returns
unfolding rho_in then
returns c = search rules
