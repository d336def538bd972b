-- `brundelak_handed::point_numbers` meets its contract.
use Rattle.std.proofs.Common.{rules}
use Rattle.brundelak_handed.specs.rules.Boundary.{numbers_of_point}
use Rattle.brundelak_handed.proofs.point_numbers.Goals as goal

pub returns-in_err-p : goal.returns-in_err-p
unfolding numbers_of_point
returns-in_err-p g c = search rules

pub returns : goal.returns
unfolding numbers_of_point
returns g c = search rules
