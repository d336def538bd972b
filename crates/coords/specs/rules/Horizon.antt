-- Equatorial and horizontal coordinates (Meeus, chapter 13): hour angle h, declination d, azimuth z, altitude a, observer's latitude p.
use Rattle.std.specs.Prelude.{Float}
use Rattle.double.specs.rules.Operations.{◌⊕◌, ◌⊖◌, ◌⊗◌}
use Rattle.quantity.specs.declared.Rad.{Rad}
use Rattle.quantity.specs.rules.Answer.{Answer, unless}
use Rattle.edition.specs.declared.Edition.{Edition}
use Rattle.edition.specs.rules.Edition.{by_edition}
use Rattle.elementary.specs.rules.Sine.{sine_of, cosine_of, tangent_of}
use Rattle.elementary_arc.specs.rules.Arctangent.{arctangent_in}
use Rattle.elementary_arc.specs.rules.Arcsine.{arcsine_in}
use Rattle.coords.specs.rules.Arguments.{sky_refusal, steep_sky_refusal}

-- the arctangent's second argument: south is where it bears no minus sign
abbrev pub southward : Rad → Rad → Rad → Float
southward h d p = cosine_of h ⊗ sine_of p ⊖ tangent_of d ⊗ cosine_of p

unfoldable pub azimuth_in : Rad → Rad → Rad → Answer Rad
azimuth_in h d p = arctangent_in (sine_of h) (southward h d p)

abbrev pub az_frm_eq_rule : Rad → Rad → Rad → Answer Rad
az_frm_eq_rule h d p = unless (steep_sky_refusal h d p) (azimuth_in h d p)

-- the sine of the altitude
abbrev pub upward : Rad → Rad → Rad → Float
upward h d p = sine_of p ⊗ sine_of d ⊕ (cosine_of p ⊗ cosine_of d) ⊗ cosine_of h

unfoldable pub altitude_in : Rad → Rad → Rad → Answer Rad
altitude_in h d p = arcsine_in (upward h d p)

abbrev pub alt_frm_eq_rule : Rad → Rad → Rad → Answer Rad
alt_frm_eq_rule h d p = unless (sky_refusal h d p) (altitude_in h d p)

unfoldable pub hr_angl_frm_hz_in : Rad → Rad → Rad → Answer Rad
hr_angl_frm_hz_in z a p = arctangent_in (sine_of z) (cosine_of z ⊗ sine_of p ⊕ tangent_of a ⊗ cosine_of p)

abbrev pub hr_angl_frm_hz_rule : Rad → Rad → Rad → Answer Rad
hr_angl_frm_hz_rule z a p = unless (steep_sky_refusal z a p) (hr_angl_frm_hz_in z a p)

-- the crate has cos z twice, Meeus cos a·cos z
unfoldable pub dec_frm_hz_in : Edition → Rad → Rad → Rad → Answer Rad
dec_frm_hz_in e z a p = arcsine_in (sine_of p ⊗ sine_of a ⊖ cosine_of p ⊗ by_edition e (cosine_of z) (cosine_of a) ⊗ cosine_of z)

abbrev pub dec_frm_hz_rule : Edition → Rad → Rad → Rad → Answer Rad
dec_frm_hz_rule e z a p = unless (sky_refusal z a p) (dec_frm_hz_in e z a p)
