-- Equatorial and galactic coordinates of B1950.0 (Meeus, chapter 13): right ascension a, declination d, longitude l, latitude b.
use Rattle.double.specs.rules.Operations.{bits, ◌⊕◌, ◌⊖◌, ◌⊗◌}
use Rattle.quantity.specs.declared.Deg.{Deg}
use Rattle.quantity.specs.declared.Rad.{Rad}
use Rattle.quantity.specs.rules.Angle.{deg, rad}
use Rattle.quantity.specs.rules.Answer.{Answer, unless, added_to, taken_from}
use Rattle.elementary.specs.declared.Folded.{Folded}
use Rattle.elementary.specs.rules.Fold.{fold}
use Rattle.elementary.specs.rules.Sine.{folded_sine, folded_cosine, folded_tangent}
use Rattle.elementary_arc.specs.rules.Arctangent.{arctangent_in}
use Rattle.elementary_arc.specs.rules.Arcsine.{arcsine_in}
use Rattle.helpers.specs.rules.Angle.{radians_of}
use Rattle.coords_gal.specs.rules.Arguments.{gal_refusal, steep_gal_refusal}

-- 303, the galactic longitude of the south celestial pole
abbrev pub south_cel_pole_long : Deg
south_cel_pole_long = deg (bits 0x4072f00000000000)

-- 192.25, the right ascension of the galactic pole
abbrev pub gal_pole_asc : Deg
gal_pole_asc = deg (bits 0x4068080000000000)

-- 27.4, its declination
abbrev pub gal_pole_dec : Deg
gal_pole_dec = deg (bits 0x403b666666666666)

-- 123, the galactic longitude of the celestial pole
abbrev pub cel_pole_long : Deg
cel_pole_long = deg (bits 0x405ec00000000000)

-- 12.25, the right ascension of the south galactic pole
abbrev pub south_gal_pole_asc : Deg
south_gal_pole_asc = deg (bits 0x4028800000000000)

abbrev pub pole : Folded
pole = fold (radians_of gal_pole_dec)

-- the arctangent of (sin n, sin pole · cos n − cos pole · tan d), for an angle n at the pole and a latitude d
unfoldable pub round_pole : Folded → Folded → Answer Rad
round_pole n d = arctangent_in (folded_sine n) (folded_sine pole ⊗ folded_cosine n ⊖ folded_cosine pole ⊗ folded_tangent d)

-- the galactic pole's right ascension less a
abbrev pub from_pole_asc : Rad → Folded
from_pole_asc a = fold (rad ((radians_of gal_pole_asc).0 ⊖ a.0))

unfoldable pub gal_long_in : Rad → Rad → Answer Rad
gal_long_in a d = taken_from (radians_of south_cel_pole_long) (round_pole (from_pole_asc a) (fold d))

abbrev pub gal_long_frm_eq_rule : Rad → Rad → Answer Rad
gal_long_frm_eq_rule a d = unless (steep_gal_refusal a d) (gal_long_in a d)

unfoldable pub gal_lat_in : Rad → Rad → Answer Rad
gal_lat_in a d =
    arcsine_in
    (folded_sine (fold d) ⊗ folded_sine pole ⊕ folded_cosine (fold d) ⊗ folded_cosine pole ⊗ folded_cosine (from_pole_asc a))

abbrev pub gal_lat_frm_eq_rule : Rad → Rad → Answer Rad
gal_lat_frm_eq_rule a d = unless (gal_refusal a d) (gal_lat_in a d)

-- l less the celestial pole's longitude
abbrev pub from_pole_long : Rad → Folded
from_pole_long l = fold (rad (l.0 ⊖ (radians_of cel_pole_long).0))

unfoldable pub asc_frm_gal_in : Rad → Rad → Answer Rad
asc_frm_gal_in l b = added_to (radians_of south_gal_pole_asc) (round_pole (from_pole_long l) (fold b))

abbrev pub asc_frm_gal_rule : Rad → Rad → Answer Rad
asc_frm_gal_rule l b = unless (steep_gal_refusal l b) (asc_frm_gal_in l b)
