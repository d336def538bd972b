-- A longitude, a latitude that goes into a tangent and an obliquity within their limits in size are not refused.
use Rattle.std.specs.Prelude.{◌≡◌}
use Rattle.std.specs.Float.Ieee.{le, of_bits}
use Rattle.double.specs.rules.Sign.{size}
use Rattle.double.specs.rules.Order.{◌≼◌}
use Rattle.double.specs.laws.Order.{le_trans}
use Rattle.quantity.specs.declared.Rad.{Rad}
use Rattle.quantity.specs.rules.Angle.{HALF}
use Rattle.quantity.specs.rules.Refusal.{farthest, steepest, angle_refusal, latitude_refusal, steep_refusal}
use Rattle.quantity.specs.laws.Refusal.{finite_farthest, finite_half, finite_steepest, past_none}
use Rattle.coords_ecl.specs.rules.Arguments.{steep_frame_refusal}

steepest_below_half : steepest ≼ HALF
unfolding le of_bits
steepest_below_half = tt

pub steep_frame_taken : (long lat oblq : Rad) → size long.0 ≼ farthest → size lat.0 ≼ steepest → size oblq.0 ≼ farthest
    → steep_frame_refusal long lat oblq ≡ 0
unfolding angle_refusal latitude_refusal steep_refusal
steep_frame_taken long lat oblq l b e =
    rw (
      past_none long.0 farthest 3 finite_farthest l,
      past_none lat.0 HALF 3 finite_half (le_trans (size lat.0) steepest HALF b steepest_below_half),
      past_none lat.0 steepest 4 finite_steepest b,
      past_none oblq.0 farthest 3 finite_farthest e,
    )
