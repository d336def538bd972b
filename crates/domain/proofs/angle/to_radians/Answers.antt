-- `domain::angle::to_radians` meets its contract: that an f64 fits is known where the function is entered.
use mathlib.Core.Path.{sym, subst}
use lib.Dec.{T}
use Rattle.domain.specs.laws.Conversions.{to_radians_call}
use Rattle.domain.proofs.angle.to_radians.Goals as goal

pub returns : goal.returns
returns c = record { result_value = c.to_radians.ensures; finite = to_radians_call _ (subst T (sym c.well_formed.0.1.1.0.1) tt) c.to_radians.result c.to_radians.ensures }
