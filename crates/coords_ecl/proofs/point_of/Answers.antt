-- `coords_ecl::point_of` meets its contract.
use Rattle.std.proofs.Common.{rules}
use Rattle.coords_ecl.specs.rules.Point.{point_of}
use Rattle.coords_ecl.proofs.point_of.Goals as goal

pub returns-in_err-long : goal.returns-in_err-long
unfolding point_of
returns-in_err-long c = search rules

pub returns : goal.returns
unfolding point_of
returns c = search rules
