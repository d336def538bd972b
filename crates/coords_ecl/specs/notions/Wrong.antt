-- Wrong variants of ecliptic coordinates.
use Rattle.std.specs.Float.Ieee.{neg}
use Rattle.double.specs.rules.Operations.{◌⊕◌, ◌⊖◌, ◌⊗◌}
use Rattle.quantity.specs.declared.Rad.{Rad}
use Rattle.quantity.specs.declared.EclPoint.{EclPoint}
use Rattle.quantity.specs.rules.Answer.{Answer, unless, with, then, both}
use Rattle.elementary.specs.rules.Sine.{sine_of, cosine_of, tangent_of}
use Rattle.elementary_arc.specs.rules.Arctangent.{arctangent_in}
use Rattle.elementary_arc.specs.rules.Arcsine.{arcsine_in}
use Rattle.elementary_arc.specs.notions.Wrong.{arcsine_clamped}
use Rattle.coords_ecl.specs.rules.Arguments.{frame_refusal, steep_frame_refusal}
use Rattle.coords_ecl.specs.rules.Point.{point_of}
use Rattle.coords_ecl.specs.rules.Ecliptic.{longitude_in, latitude_sum, latitude_in, ecl_frm_eq_in}
use Rattle.coords_ecl.specs.notions.Alone.{longitude_alone, latitude_alone}

-- ---- both in one point

-- of the declination, behind the longitude
abbrev pub tangent_is_sine : Rad → Rad → Rad → Answer EclPoint
tangent_is_sine a d e =
    let long = arctangent_in (sine_of a ⊗ cosine_of e ⊕ sine_of d ⊗ sine_of e) (cosine_of a) in
    unless (steep_frame_refusal a d e) (point_of (both long (latitude_in a d e)))

abbrev pub latitude_without_its_minus : Rad → Rad → Rad → Answer EclPoint
latitude_without_its_minus a d e =
    let lat = arcsine_in (sine_of d ⊗ cosine_of e ⊕ cosine_of d ⊗ sine_of e ⊗ sine_of a) in
    unless (steep_frame_refusal a d e) (point_of (both (longitude_in a d e) lat))

abbrev pub angles_traded : Rad → Rad → Rad → Answer EclPoint
angles_traded a d e = unless (steep_frame_refusal a d e) (point_of (both (latitude_in a d e) (longitude_in a d e)))

-- the latitude's refusals met before the longitude's
abbrev pub latitude_refused_first : Rad → Rad → Rad → Answer EclPoint
latitude_refused_first a d e =
    then (latitude_alone a d e) (λ (b : Rad). with (λ (l : Rad). record { long = l.0; lat = b.0 }) (longitude_alone a d e))

-- answered where the latitude's arcsine refuses
abbrev pub latitude_clamped : Rad → Rad → Rad → Answer EclPoint
latitude_clamped a d e =
    unless (steep_frame_refusal a d e) (point_of (both (longitude_in a d e) (arcsine_clamped (latitude_sum a d e))))

-- answered where the longitude alone is refused
abbrev pub declination_not_steep : Rad → Rad → Rad → Answer EclPoint
declination_not_steep a d e = unless (frame_refusal a d e) (ecl_frm_eq_in a d e)

-- ---- right ascension and declination

-- the arctangent's second argument negated
abbrev pub asc_from_the_mirror : Rad → Rad → Rad → Answer Rad
asc_from_the_mirror l b e =
    unless (steep_frame_refusal l b e) (arctangent_in (sine_of l ⊗ cosine_of e ⊖ tangent_of b ⊗ sine_of e) (neg (cosine_of l)))

-- of the longitude
abbrev pub dec_with_the_cosine : Rad → Rad → Rad → Answer Rad
dec_with_the_cosine l b e =
    unless (frame_refusal l b e) (arcsine_in (sine_of b ⊗ cosine_of e ⊕ cosine_of b ⊗ sine_of e ⊗ cosine_of l))
