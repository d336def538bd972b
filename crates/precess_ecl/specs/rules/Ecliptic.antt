-- Precession of ecliptic coordinates (Meeus 21.5 to 21.7):
-- c is the century of the first day, t the span of centuries from the first day to the second.
use Rattle.std.specs.Prelude.{Float}
use Rattle.double.specs.rules.Operations.{◌⊕◌, ◌⊖◌, ◌⊗◌}
use Rattle.quantity.specs.declared.Deg.{Deg}
use Rattle.quantity.specs.declared.Rad.{Rad}
use Rattle.quantity.specs.rules.Angle.{deg, rad}
use Rattle.quantity.specs.rules.Answer.{Answer, Pair, unless, taken_from, both}
use Rattle.elementary.specs.declared.Folded.{Folded}
use Rattle.elementary.specs.rules.Fold.{fold}
use Rattle.elementary.specs.rules.Sine.{folded_sine, folded_cosine, sine_of, cosine_of}
use Rattle.elementary_arc.specs.rules.Arctangent.{arctangent_in}
use Rattle.elementary_arc.specs.rules.Arcsine.{arcsine_in}
use Rattle.helpers.specs.rules.Angle.{arc, radians_of}
use Rattle.helpers.specs.rules.Time.{century_of}
use Rattle.precess_ecl.specs.declared.EclPrecession.{EclPrecession}
use Rattle.precess_ecl.specs.rules.Numbers.{n0·000598, n47·0029, n0·06603, m0·03302, n0·00006, n174·876384, n3289·4789, n0·60622, n869·8089}
use Rattle.precess_ecl.specs.rules.Numbers.{n0·50491, n0·03536, n0·000042, n5029·0966, n2·22226, n1·11113, n0·000006}
use Rattle.precess_angles.specs.rules.Days.{span_of, place_refusal}

unfoldable pub ecl_nu : Float → Float → Deg
ecl_nu c t =
    let x = c ⊗ arc n0·000598 in
    deg (t ⊗ (arc n47·0029 ⊖ c ⊗ (arc n0·06603 ⊖ x) ⊕ t ⊗ ((arc m0·03302 ⊕ x) ⊕ t ⊗ arc n0·00006)))

unfoldable pub ecl_pi : Float → Float → Deg
ecl_pi c t =
    deg (n174·876384 ⊕ c ⊗ (arc n3289·4789 ⊕ c ⊗ arc n0·60622) ⊖ t ⊗ ((arc n869·8089 ⊕ c ⊗ arc n0·50491) ⊖ t ⊗ arc n0·03536))

unfoldable pub ecl_rho : Float → Float → Deg
ecl_rho c t =
    let y = c ⊗ arc n0·000042 in
    deg (t ⊗ (arc n5029·0966 ⊕ c ⊗ (arc n2·22226 ⊖ y) ⊕ t ⊗ ((arc n1·11113 ⊖ y) ⊖ t ⊗ arc n0·000006)))

-- what two days fix, from the three angles
unfoldable pub ecl_precession_by : Rad → Rad → Rad → EclPrecession
ecl_precession_by nu pi rho = record { nu = nu; sine = sine_of nu; cosine = cosine_of nu; pi = pi; rho = rho }

unfoldable pub ecl_precession_of : Float → Float → EclPrecession
ecl_precession_of day1 day2 =
    let c = century_of day1 in
    let t = span_of day1 day2 in
    ecl_precession_by (radians_of (ecl_nu c t)) (radians_of (ecl_pi c t)) (radians_of (ecl_rho c t))

-- a place after precession: p is Pi less its longitude, b its latitude
unfoldable pub ecl_precessed_from : Folded → Folded → EclPrecession → Answer Pair
ecl_precessed_from p b precession =
    let sp = folded_sine p in
    let cp = folded_cosine p in
    let sb = folded_sine b in
    let cb = folded_cosine b in
    both
    (taken_from (rad (precession.rho.0 ⊕ precession.pi.0)) (arctangent_in (precession.cosine ⊗ cb ⊗ sp ⊖ precession.sine ⊗ sb) (cb ⊗ cp)))
    (arcsine_in (precession.cosine ⊗ sb ⊕ precession.sine ⊗ cb ⊗ sp))

unfoldable pub ecl_precessed_in : Rad → Rad → EclPrecession → Answer Pair
ecl_precessed_in long lat precession = ecl_precessed_from (fold (rad (precession.pi.0 ⊖ long.0))) (fold lat) precession

abbrev pub precess_ecl_coords_rule : Rad → Rad → Float → Float → Answer Pair
precess_ecl_coords_rule long lat day1 day2 =
    unless (place_refusal long lat day1 day2) (ecl_precessed_in long lat (ecl_precession_of day1 day2))
