-- Stellar aberration in equatorial coordinates (Ron and Vondrák; Meeus, chapter 23).
use Rattle.std.specs.Prelude.{ℕ, Float}
use Rattle.std.specs.Float.Ieee.{neg}
use Rattle.double.specs.rules.Operations.{◌⊕◌, ◌⊖◌, ◌⊗◌, ◌⊘◌}
use Rattle.quantity.specs.declared.EqPoint.{EqPoint}
use Rattle.quantity.specs.declared.Shift.{Shift}
use Rattle.quantity.specs.rules.Angle.{rad}
use Rattle.quantity.specs.rules.Answer.{Answer, answered, Pair, pair, unless}
use Rattle.quantity.specs.rules.Refusal.{lower, day_refusal, angle_refusal, steep_refusal}
use Rattle.elementary.specs.declared.Direction.{Direction}
use Rattle.elementary.specs.rules.Direction.{direction_of}
use Rattle.aberr_args.specs.declared.Velocity.{Velocity}
use Rattle.aberr.specs.rules.Numbers.{n17314463350}
use Rattle.aberr_table.specs.rules.Velocity.{velocity_of}

-- the speed of light, in the unit of the velocity
abbrev pub light : Float
light = n17314463350

-- (y·cos a − x·sin a)/(c·cos d), and −((x·cos a + y·sin a)·sin d − z·cos d)/c
unfoldable pub aberr_at : Direction → Velocity → Shift
aberr_at d v =
    record {
      asc = rad ((v.y ⊗ d.cos_asc ⊖ v.x ⊗ d.sin_asc) ⊘ (light ⊗ d.cos_dec));
      dec = rad (neg ((v.x ⊗ d.cos_asc ⊕ v.y ⊗ d.sin_asc) ⊗ d.sin_dec ⊖ v.z ⊗ d.cos_dec) ⊘ light);
    }

abbrev pub stell_aberr_refusal : EqPoint → Float → ℕ
stell_aberr_refusal p day =
    lower (lower (angle_refusal (rad p.asc)) (steep_refusal (rad p.dec))) (day_refusal day)

unfoldable pub stell_aberr_in_eq_coords_in : EqPoint → Float → Shift
stell_aberr_in_eq_coords_in p day = aberr_at (direction_of p) (velocity_of day)

unfoldable pub stell_aberr_in_eq_coords_rule : EqPoint → Float → Answer Pair
stell_aberr_in_eq_coords_rule p day =
    unless (stell_aberr_refusal p day)
    (answered (pair (stell_aberr_in_eq_coords_in p day).asc.0 (stell_aberr_in_eq_coords_in p day).dec.0))
