-- Wrong variants of stellar aberration.
use Rattle.std.specs.Prelude.{Float}
use Rattle.std.specs.Float.Ieee.{neg}
use Rattle.double.specs.rules.Operations.{bits, ◌⊕◌, ◌⊖◌, ◌⊗◌, ◌⊘◌}
use Rattle.quantity.specs.declared.EqPoint.{EqPoint}
use Rattle.quantity.specs.declared.Shift.{Shift}
use Rattle.quantity.specs.rules.Angle.{rad}
use Rattle.quantity.specs.rules.Answer.{Answer, answered, Pair, pair, unless}
use Rattle.quantity.specs.rules.Refusal.{lower, day_refusal, angle_refusal, latitude_refusal}
use Rattle.elementary.specs.declared.Direction.{Direction}
use Rattle.aberr_args.specs.declared.Velocity.{Velocity}
use Rattle.aberr.specs.rules.Star.{light, aberr_at, stell_aberr_in_eq_coords_in}

-- 17314463360.0
abbrev another : Float
another = bits 0x42102016fa000000

-- the speed of light ends in 60
abbrev pub another_light : Direction → Velocity → Shift
another_light d v =
    record {
      asc = rad ((v.y ⊗ d.cos_asc ⊖ v.x ⊗ d.sin_asc) ⊘ (another ⊗ d.cos_dec));
      dec =
          rad (neg ((v.x ⊗ d.cos_asc ⊕ v.y ⊗ d.sin_asc) ⊗ d.sin_dec ⊖ v.z ⊗ d.cos_dec) ⊘ another);
    }

-- of the right ascension's divisor
abbrev pub cosine_of_declination_missing : Direction → Velocity → Shift
cosine_of_declination_missing d v =
    record { asc = rad ((v.y ⊗ d.cos_asc ⊖ v.x ⊗ d.sin_asc) ⊘ light); dec = (aberr_at d v).dec }

-- tested as a latitude only
abbrev pub declination_not_steep : EqPoint → Float → Answer Pair
declination_not_steep p day =
    unless
    (lower (lower (angle_refusal (rad p.asc)) (latitude_refusal (rad p.dec))) (day_refusal day))
    (answered (pair (stell_aberr_in_eq_coords_in p day).asc.0 (stell_aberr_in_eq_coords_in p day).dec.0))
