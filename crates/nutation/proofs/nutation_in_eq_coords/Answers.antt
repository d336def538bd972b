-- `nutation::nutation_in_eq_coords` meets its contract.
use Rattle.std.proofs.Common.{rules}
use Rattle.nutation.specs.rules.Point.{nutation_in_eq_coords_rule}
use Rattle.nutation.proofs.nutation_in_eq_coords.Goals as goal

pub returns-in_err-nutation_in_refusal : goal.returns-in_err-nutation_in_refusal
unfolding nutation_in_eq_coords_rule
returns-in_err-nutation_in_refusal c = search rules

pub returns : goal.returns
unfolding nutation_in_eq_coords_rule
returns c = search rules
