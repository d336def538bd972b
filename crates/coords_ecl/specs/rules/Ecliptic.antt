-- Equatorial and ecliptic coordinates (Meeus, chapter 13): right ascension a, declination d, longitude l, latitude b, obliquity e.
use Rattle.std.specs.Prelude.{Float}
use Rattle.double.specs.rules.Operations.{◌⊕◌, ◌⊖◌, ◌⊗◌}
use Rattle.quantity.specs.declared.Rad.{Rad}
use Rattle.quantity.specs.declared.EclPoint.{EclPoint}
use Rattle.quantity.specs.rules.Answer.{Answer, unless, both}
use Rattle.elementary.specs.rules.Sine.{sine_of, cosine_of, tangent_of}
use Rattle.elementary_arc.specs.rules.Arctangent.{arctangent_in}
use Rattle.elementary_arc.specs.rules.Arcsine.{arcsine_in}
use Rattle.coords_ecl.specs.rules.Arguments.{frame_refusal, steep_frame_refusal}
use Rattle.coords_ecl.specs.rules.Point.{point_of}

-- the sum behind the ecliptic longitude
abbrev pub longitude_sum : Rad → Rad → Rad → Float
longitude_sum a d e = sine_of a ⊗ cosine_of e ⊕ tangent_of d ⊗ sine_of e

unfoldable pub longitude_in : Rad → Rad → Rad → Answer Rad
longitude_in a d e = arctangent_in (longitude_sum a d e) (cosine_of a)

-- the sum behind the ecliptic latitude
abbrev pub latitude_sum : Rad → Rad → Rad → Float
latitude_sum a d e = sine_of d ⊗ cosine_of e ⊖ cosine_of d ⊗ sine_of e ⊗ sine_of a

unfoldable pub latitude_in : Rad → Rad → Rad → Answer Rad
latitude_in a d e = arcsine_in (latitude_sum a d e)

-- both in one point; the longitude's refusal comes before the latitude's
unfoldable pub ecl_frm_eq_in : Rad → Rad → Rad → Answer EclPoint
ecl_frm_eq_in a d e = point_of (both (longitude_in a d e) (latitude_in a d e))

abbrev pub ecl_frm_eq_rule : Rad → Rad → Rad → Answer EclPoint
ecl_frm_eq_rule a d e = unless (steep_frame_refusal a d e) (ecl_frm_eq_in a d e)

unfoldable pub asc_frm_ecl_in : Rad → Rad → Rad → Answer Rad
asc_frm_ecl_in l b e = arctangent_in (sine_of l ⊗ cosine_of e ⊖ tangent_of b ⊗ sine_of e) (cosine_of l)

abbrev pub asc_frm_ecl_rule : Rad → Rad → Rad → Answer Rad
asc_frm_ecl_rule l b e = unless (steep_frame_refusal l b e) (asc_frm_ecl_in l b e)

unfoldable pub dec_frm_ecl_in : Rad → Rad → Rad → Answer Rad
dec_frm_ecl_in l b e = arcsine_in (sine_of b ⊗ cosine_of e ⊕ cosine_of b ⊗ sine_of e ⊗ sine_of l)

abbrev pub dec_frm_ecl_rule : Rad → Rad → Rad → Answer Rad
dec_frm_ecl_rule l b e = unless (frame_refusal l b e) (dec_frm_ecl_in l b e)
