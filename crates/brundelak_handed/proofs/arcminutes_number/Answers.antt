-- `brundelak_handed::arcminutes_number` meets its contract.
use Rattle.std.proofs.Common.{rules}
use Rattle.brundelak_handed.specs.rules.Boundary.{number_of_arcminutes}
use Rattle.brundelak_handed.proofs.arcminutes_number.Goals as goal

pub returns-in_err-x : goal.returns-in_err-x
unfolding number_of_arcminutes
returns-in_err-x g c = search rules

pub returns : goal.returns
unfolding number_of_arcminutes
returns g c = search rules
