-- `brundelak_handed::radians_number` meets its contract.
use Rattle.std.proofs.Common.{rules}
use Rattle.brundelak_handed.specs.rules.Boundary.{number_of_radians}
use Rattle.brundelak_handed.proofs.radians_number.Goals as goal

pub returns-in_err-x : goal.returns-in_err-x
unfolding number_of_radians
returns-in_err-x g c = search rules

pub returns : goal.returns
unfolding number_of_radians
returns g c = search rules
