-- `domain::angle::deg_frm_dms` meets its contract: that an f64 fits is known where the function is entered.
use mathlib.Core.Path.{sym, subst}
use lib.Dec.{T}
use Rattle.domain.specs.laws.Conversions.{deg_frm_dms_call}
use Rattle.domain.proofs.angle.deg_frm_dms.Goals as goal

pub returns : goal.returns
returns c = record { result_value = c.deg_frm_dms.ensures; finite = deg_frm_dms_call _ (subst T (sym c.well_formed.0.1) tt) c.deg_frm_dms.result c.deg_frm_dms.ensures }
