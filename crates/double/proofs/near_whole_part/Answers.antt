-- `double::near_whole_part` meets its contract; that the format holds x is what owning an `f64` tells.
use Rattle.std.proofs.Common.{T, sym, subst, arith}
use lib.Ieee.{Float, binary64, fits}
use Rattle.double.specs.rules.Operations.{bits, half}
use Rattle.double.specs.rules.Order.{◌≼◌}
use Rattle.double.specs.notions.WholeDigits.{IsNear}
use Rattle.double.specs.laws.Patterns.{finite_no_nan}
use Rattle.double.specs.laws.WholeDigits.{near, field_from, field_upto, digits_cut_lem}
use Rattle.double.proofs.near_whole_part.Goals as goal

tested : (x : Float) → T (fits binary64 x) → (half ≼ x) × (x ≼ bits 0x433fffffffffffff) → IsNear x
tested x fits between = near x fits between.0 between.1

pub float_to_bits-b : goal.float_to_bits-b
float_to_bits-b c = finite_no_nan c.args.x (tested c.args.x (subst T (sym c.well_formed.0.1) tt) c.requires).from_zero.finite

pub overflow_sub-result : goal.overflow_sub-result
overflow_sub-result c = field_upto c.args.x (tested c.args.x (subst T (sym c.well_formed.0.1) tt) c.requires)

pub overflow_shr-result-2 : goal.overflow_shr-result-2
overflow_shr-result-2 c = omega (arith, field_from c.args.x (tested c.args.x (subst T (sym c.well_formed.0.1) tt) c.requires))

pub returns : goal.returns
returns c = digits_cut_lem c.args.x (tested c.args.x (subst T (sym c.well_formed.0.1) tt) c.requires)
