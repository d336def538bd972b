-- Wrong variants of precession.
use Rattle.std.specs.Prelude.{Float}
use Rattle.double.specs.rules.Operations.{◌⊕◌, ◌⊖◌, ◌⊗◌}
use Rattle.quantity.specs.declared.Rad.{Rad}
use Rattle.quantity.specs.rules.Answer.{Answer, answered, Pair, pair, unless, then}
use Rattle.edition.specs.declared.Edition.{Edition}
use Rattle.elementary.specs.rules.Direction.{direction_of}
use Rattle.elementary.specs.rules.Sine.{sine_of, cosine_of}
use Rattle.elementary_arc.specs.rules.Arcsine.{arcsine_in}
use Rattle.helpers.specs.rules.Angle.{radians_of}
use Rattle.helpers.specs.rules.Time.{century_of}
use Rattle.precess_angles.specs.rules.Days.{place_refusal}
use Rattle.precess_angles.specs.rules.Equatorial.{eq_precession_of}
use Rattle.precess.specs.rules.Annual.{annual_m, annual_n, annual_refusal}
use Rattle.precess.specs.rules.Equatorial.{precessed_from, precessed_in}

-- ---- annual precession

-- of the declination
abbrev pub annual_tangent_is_sine : Rad → Rad → Float → Answer Pair
annual_tangent_is_sine asc dec day =
    let m = (radians_of (annual_m (century_of day))).0 in
    let n = (radians_of (annual_n (century_of day))).0 in
    unless (annual_refusal asc dec day) (answered (pair (m ⊕ n ⊗ sine_of asc ⊗ sine_of dec) (n ⊗ cosine_of asc)))

-- ---- equatorial coordinates

-- from the right ascension
abbrev pub xi_taken_away : Edition → Rad → Rad → Float → Float → Answer Pair
xi_taken_away e asc dec day1 day2 =
    let precession = eq_precession_of e day1 day2 in
    unless (place_refusal asc dec day1 day2)
    (precessed_from (direction_of (record { asc = asc.0 ⊖ precession.xi.0; dec = dec.0 })) precession)

-- the second day not tested
abbrev pub days_in_any_order : Edition → Rad → Rad → Float → Float → Answer Pair
days_in_any_order e asc dec day1 day2 =
    unless (place_refusal asc dec day1 day1) (precessed_in asc dec (eq_precession_of e day1 day2))

-- 7 before 14
abbrev pub arcsine_first : Edition → Rad → Rad → Float → Float → Answer Pair
arcsine_first e asc dec day1 day2 =
    let precession = eq_precession_of e day1 day2 in
    let d = direction_of (record { asc = asc.0 ⊕ precession.xi.0; dec = dec.0 }) in
    unless (place_refusal asc dec day1 day2)
    (then (arcsine_in (precession.sine ⊗ d.cos_dec ⊗ d.cos_asc ⊕ precession.cosine ⊗ d.sin_dec))
    (λ (s : Rad). precessed_from d precession))
