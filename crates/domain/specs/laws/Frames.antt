-- No answer of the changes of frame is a NaN or an infinity; altitude, declinations and latitudes are a quarter turn at most in size.
-- Ecliptic coordinates from equatorial ones stand in EclFrmEq.
use Rattle.std.specs.Prelude.{ℕ, ◌≡◌, refl, Float}
use Rattle.std.specs.Float.Ieee.{neg, add, sub, mul, le, of_bits, round}
use Rattle.double.specs.rules.Operations.{one, ◌⊕◌, ◌⊖◌, ◌⊗◌}
use Rattle.double.specs.rules.Sign.{size, is_finite}
use Rattle.double.specs.rules.Order.{◌≼◌, Finite, Between}
use Rattle.double.specs.notions.Range.{known, con, ◌⊞◌, ◌⊟◌, ◌⊠◌}
use Rattle.double.specs.laws.Between.{finite_of_size, between→size}
use Rattle.quantity.specs.declared.Rad.{Rad}
use Rattle.quantity.specs.rules.Angle.{rad, PI, HALF}
use Rattle.quantity.specs.rules.Answer.{answered, unless, added_to, taken_from}
use Rattle.quantity.specs.rules.Refusal.{angle_refusal, latitude_refusal, steep_refusal}
use Rattle.edition.specs.declared.Edition.{Edition}
use Rattle.edition.specs.declared.Edition.TheVariants.{Crate, Published}
use Rattle.edition.specs.rules.Edition.{by_edition}
use Rattle.elementary.specs.rules.Fold.{fold}
use Rattle.elementary.specs.rules.Sine.{sine_of, cosine_of, tangent_of, farthest_alone}
use Rattle.elementary_arc.specs.rules.Arctangent.{arctangent_in}
use Rattle.elementary_arc.specs.rules.Arcsine.{arcsine_in}
use Rattle.quantity.specs.laws.Accepted.{lower_none}
use Rattle.elementary.specs.laws.Sine.{sine_between, cosine_between}
use Rattle.helpers.specs.rules.Angle.{radians_of}
use Rattle.coords_ecl.specs.rules.Arguments.{frame_refusal, steep_frame_refusal}
use Rattle.coords.specs.rules.Arguments.{sky_refusal, steep_sky_refusal}
use Rattle.coords_gal.specs.rules.Arguments.{gal_refusal, steep_gal_refusal}
use Rattle.coords.specs.rules.HourAngle.{hr_angl_frm_observer_long, observer_long_refusal, hr_angl_frm_observer_long_rule, loc_sidr_refusal, hr_angl_frm_loc_sidr_rule}
use Rattle.coords_ecl.specs.rules.Ecliptic.{asc_frm_ecl_in, asc_frm_ecl_rule, dec_frm_ecl_in, dec_frm_ecl_rule}
use Rattle.coords.specs.rules.Horizon.{southward, azimuth_in, az_frm_eq_rule, upward, altitude_in, alt_frm_eq_rule, hr_angl_frm_hz_in, hr_angl_frm_hz_rule}
use Rattle.coords.specs.rules.Horizon.{dec_frm_hz_in, dec_frm_hz_rule}
use Rattle.coords_gal.specs.rules.Galactic.{south_cel_pole_long, gal_pole_asc, gal_pole_dec, cel_pole_long, south_gal_pole_asc, round_pole, gal_long_in}
use Rattle.coords_gal.specs.rules.Galactic.{gal_long_frm_eq_rule, gal_lat_in, gal_lat_frm_eq_rule, asc_frm_gal_in, asc_frm_gal_rule}
use Rattle.domain_accepted.specs.notions.Within.{Angle}
use Rattle.domain_accepted.specs.notions.Outcome.{Outcome, Never, Seven, Fourteen}
use Rattle.domain_accepted.specs.laws.Outcome.{outcome_answered, outcome_with, rule_answers}
use Rattle.domain_accepted.specs.laws.Elementary.{arctangent_outcome, arcsine_outcome}
use Rattle.domain_accepted.specs.laws.Near.{within, near_far}
use Rattle.domain_accepted.specs.laws.Accepted.{none_of_three, angle_between, angle_sine, angle_cosine, latitude_sine, latitude_cosine, steep_tangent}
use Rattle.domain_accepted.specs.laws.Horizon.{westward_finite, southward_finite}

-- ---- the three shapes of the work: a sum, an arctangent and an arcsine

of_sum : (n : ℕ) (z v : Rad) → unless n (answered z) ≡ answered v → (n ≡ 0 → Finite z.0) → Finite v.0
of_sum n z v answer finite =
    rule_answers {P = Angle Finite} {Q = Never} n (answered z) (λ none. outcome_answered z (finite none)) v answer

of_arctangent : (n : ℕ) (y x : Float) (v : Rad) → unless n (arctangent_in y x) ≡ answered v → (n ≡ 0 → Finite y × Finite x) → Finite v.0
of_arctangent n y x v answer finite =
    (rule_answers {Q = Fourteen} n (arctangent_in y x)
    (λ none.
    let f = finite none in
    arctangent_outcome refl y x f.0 f.1) v answer).finite

of_arcsine : (n : ℕ) (s : Float) (v : Rad) → unless n (arcsine_in s) ≡ answered v → (n ≡ 0 → Finite s) → size v.0 ≼ HALF
of_arcsine n s v answer finite =
    between→size HALF v.0 (rule_answers {Q = Seven} n (arcsine_in s) (λ none. arcsine_outcome refl s (finite none)) v answer)

finite_of_quarter_turn : (v : Rad) → size v.0 ≼ HALF → Finite v.0
finite_of_quarter_turn v h = finite_of_size v.0 HALF (unfold is_finite of_bits in tt) h

-- ---- the hour angle

pub hr_angl_frm_observer_long_finite : (g l a v : Rad) → hr_angl_frm_observer_long_rule g l a ≡ answered v → Finite v.0
unfolding is_finite le neg add sub of_bits round
hr_angl_frm_observer_long_finite g l a v answer =
    of_sum (observer_long_refusal g l a) (hr_angl_frm_observer_long g l a) v answer
    (λ none.
    let n = none_of_three (angle_refusal g) (angle_refusal l) (angle_refusal a) none in
    (within 32768 ((known (angle_between g n.0) ⊟ known (angle_between l n.1)) ⊟ known (angle_between a n.2)) tt).finite)

pub hr_angl_frm_loc_sidr_finite : (s a v : Rad) → hr_angl_frm_loc_sidr_rule s a ≡ answered v → Finite v.0
unfolding is_finite le neg add sub of_bits round
hr_angl_frm_loc_sidr_finite s a v answer =
    of_sum (loc_sidr_refusal s a) (rad (s.0 ⊖ a.0)) v answer
    (λ none.
    let n = lower_none (angle_refusal s) (angle_refusal a) none in
    (within 32768 (known (angle_between s n.0) ⊟ known (angle_between a n.1)) tt).finite)

-- ---- right ascension and declination from ecliptic coordinates

pub asc_frm_ecl_finite : (l b e v : Rad) → asc_frm_ecl_rule l b e ≡ answered v → Finite v.0
unfolding asc_frm_ecl_in is_finite le neg add sub mul of_bits round
asc_frm_ecl_finite l b e v answer =
    of_arctangent (steep_frame_refusal l b e) (sine_of l ⊗ cosine_of e ⊖ tangent_of b ⊗ sine_of e) (cosine_of l) v answer
    (λ none.
    let n = none_of_three (angle_refusal l) (steep_refusal b) (angle_refusal e) none in
    ((within 32768 (known (angle_sine l n.0) ⊠ known (angle_cosine e n.2) ⊟ known (steep_tangent b n.1) ⊠ known (angle_sine e n.2)) tt).finite, (within 32768 (known (angle_cosine l n.0)) tt).finite))

pub dec_frm_ecl_at_most_quarter_turn : (l b e v : Rad) → dec_frm_ecl_rule l b e ≡ answered v → size v.0 ≼ HALF
unfolding dec_frm_ecl_in is_finite le neg add sub mul of_bits round
dec_frm_ecl_at_most_quarter_turn l b e v answer =
    of_arcsine (frame_refusal l b e) (sine_of b ⊗ cosine_of e ⊕ cosine_of b ⊗ sine_of e ⊗ sine_of l) v answer
    (λ none.
    let n = none_of_three (angle_refusal l) (latitude_refusal b) (angle_refusal e) none in
    (within 32768 (known (latitude_sine b n.1) ⊠ known (angle_cosine e n.2) ⊞ known (latitude_cosine b n.1) ⊠ known (angle_sine e n.2) ⊠ known (angle_sine l n.0)) tt).finite)

pub dec_frm_ecl_finite : (l b e v : Rad) → dec_frm_ecl_rule l b e ≡ answered v → Finite v.0
dec_frm_ecl_finite l b e v answer = finite_of_quarter_turn v (dec_frm_ecl_at_most_quarter_turn l b e v answer)

-- ---- equatorial and horizontal

pub az_frm_eq_finite : (h d p v : Rad) → az_frm_eq_rule h d p ≡ answered v → Finite v.0
unfolding azimuth_in
az_frm_eq_finite h d p v answer =
    of_arctangent (steep_sky_refusal h d p) (sine_of h) (southward h d p) v answer
    (λ none. (westward_finite h d p none, southward_finite h d p none))

pub alt_frm_eq_at_most_quarter_turn : (h d p v : Rad) → alt_frm_eq_rule h d p ≡ answered v → size v.0 ≼ HALF
unfolding altitude_in is_finite le neg add sub mul of_bits round
alt_frm_eq_at_most_quarter_turn h d p v answer =
    of_arcsine (sky_refusal h d p) (upward h d p) v answer
    (λ none.
    let n = none_of_three (angle_refusal h) (latitude_refusal d) (latitude_refusal p) none in
    (within 32768 (known (latitude_sine p n.2) ⊠ known (latitude_sine d n.1) ⊞ (known (latitude_cosine p n.2) ⊠ known (latitude_cosine d n.1)) ⊠ known (angle_cosine h n.0)) tt).finite)

pub alt_frm_eq_finite : (h d p v : Rad) → alt_frm_eq_rule h d p ≡ answered v → Finite v.0
alt_frm_eq_finite h d p v answer = finite_of_quarter_turn v (alt_frm_eq_at_most_quarter_turn h d p v answer)

pub hr_angl_frm_hz_finite : (z a p v : Rad) → hr_angl_frm_hz_rule z a p ≡ answered v → Finite v.0
unfolding hr_angl_frm_hz_in is_finite le neg add sub mul of_bits round
hr_angl_frm_hz_finite z a p v answer =
    of_arctangent (steep_sky_refusal z a p) (sine_of z) (cosine_of z ⊗ sine_of p ⊕ tangent_of a ⊗ cosine_of p) v answer
    (λ none.
    let n = none_of_three (angle_refusal z) (steep_refusal a) (latitude_refusal p) none in
    ((within 32768 (known (angle_sine z n.0)) tt).finite, (within 32768 (known (angle_cosine z n.0) ⊠ known (latitude_sine p n.2) ⊞ known (steep_tangent a n.1) ⊠ known (latitude_cosine p n.2)) tt).finite))

-- the cosine that the editions have otherwise
either_cosine : (e : Edition) (z a : Rad) → angle_refusal z ≡ 0 → latitude_refusal a ≡ 0
    → Between (neg one) one (by_edition e (cosine_of z) (cosine_of a))
either_cosine Crate z a Z A = angle_cosine z Z
either_cosine Published z a Z A = latitude_cosine a A

pub dec_frm_hz_at_most_quarter_turn : (e : Edition) (z a p v : Rad) → dec_frm_hz_rule e z a p ≡ answered v → size v.0 ≼ HALF
unfolding dec_frm_hz_in is_finite le neg add sub mul of_bits round
dec_frm_hz_at_most_quarter_turn e z a p v answer =
    of_arcsine (sky_refusal z a p) (sine_of p ⊗ sine_of a ⊖ cosine_of p ⊗ by_edition e (cosine_of z) (cosine_of a) ⊗ cosine_of z) v answer
    (λ none.
    let n = none_of_three (angle_refusal z) (latitude_refusal a) (latitude_refusal p) none in
    (within 32768 (known (latitude_sine p n.2) ⊠ known (latitude_sine a n.1) ⊟ known (latitude_cosine p n.2) ⊠ known (either_cosine e z a n.0 n.1) ⊠ known (angle_cosine z n.0)) tt).finite)

pub dec_frm_hz_finite : (e : Edition) (z a p v : Rad) → dec_frm_hz_rule e z a p ≡ answered v → Finite v.0
dec_frm_hz_finite e z a p v answer = finite_of_quarter_turn v (dec_frm_hz_at_most_quarter_turn e z a p v answer)

-- ---- equatorial and galactic: the three angles that go into a sine, then the functions

pub pole_far : size (radians_of gal_pole_dec).0 ≼ farthest_alone
unfolding size le mul of_bits
pole_far = tt

-- the galactic pole's right ascension less a
pub pole_asc_far : (a : Rad) → angle_refusal a ≡ 0 → size ((radians_of gal_pole_asc).0 ⊖ a.0) ≼ farthest_alone
unfolding is_finite le neg add sub mul of_bits round
pole_asc_far a none =
    near_far ((radians_of gal_pole_asc).0 ⊖ a.0) (within 2048 (con (radians_of gal_pole_asc).0 ⊟ known (angle_between a none)) tt)

-- l less the celestial pole's longitude
pub pole_long_far : (l : Rad) → angle_refusal l ≡ 0 → size (l.0 ⊖ (radians_of cel_pole_long).0) ≼ farthest_alone
unfolding is_finite le neg add sub mul of_bits round
pole_long_far l none =
    near_far (l.0 ⊖ (radians_of cel_pole_long).0) (within 2048 (known (angle_between l none) ⊟ con (radians_of cel_pole_long).0) tt)

-- an angle at the pole is half a turn at most
round_pole_outcome : (n d : Rad) → size n.0 ≼ farthest_alone → steep_refusal d ≡ 0
    → Outcome (Angle (Between (neg PI) PI)) Fourteen (round_pole (fold n) (fold d))
unfolding round_pole is_finite le neg add sub mul of_bits round
round_pole_outcome n d N none =
    let p = radians_of gal_pole_dec in
    arctangent_outcome refl (sine_of n) (sine_of p ⊗ cosine_of n ⊖ cosine_of p ⊗ tangent_of d) (sine_between n N).finite
    (within 32768
    (known (sine_between p pole_far) ⊠ known (cosine_between n N) ⊟ known (cosine_between p pole_far) ⊠ known (steep_tangent d none)) tt
    ).finite

pub gal_long_frm_eq_finite : (a d v : Rad) → gal_long_frm_eq_rule a d ≡ answered v → Finite v.0
unfolding gal_long_in taken_from is_finite le neg add sub mul of_bits round
gal_long_frm_eq_finite a d v answer =
    let z = radians_of south_cel_pole_long in
    let m = rad ((radians_of gal_pole_asc).0 ⊖ a.0) in
    rule_answers {P = Angle Finite} {Q = Fourteen} (steep_gal_refusal a d) (gal_long_in a d)
    (λ none.
    let n = lower_none (angle_refusal a) (steep_refusal d) none in
    outcome_with (λ (x : Rad). rad (z.0 ⊖ x.0)) (λ x i. (within 32768 (con z.0 ⊟ known i) tt).finite) (round_pole (fold m) (fold d))
    (round_pole_outcome m d (pole_asc_far a n.0) n.1)) v answer

pub asc_frm_gal_finite : (l b v : Rad) → asc_frm_gal_rule l b ≡ answered v → Finite v.0
unfolding asc_frm_gal_in added_to is_finite le neg add sub mul of_bits round
asc_frm_gal_finite l b v answer =
    let z = radians_of south_gal_pole_asc in
    let m = rad (l.0 ⊖ (radians_of cel_pole_long).0) in
    rule_answers {P = Angle Finite} {Q = Fourteen} (steep_gal_refusal l b) (asc_frm_gal_in l b)
    (λ none.
    let n = lower_none (angle_refusal l) (steep_refusal b) none in
    outcome_with (λ (x : Rad). rad (z.0 ⊕ x.0)) (λ x i. (within 32768 (con z.0 ⊞ known i) tt).finite) (round_pole (fold m) (fold b))
    (round_pole_outcome m b (pole_long_far l n.0) n.1)) v answer

pub gal_lat_frm_eq_at_most_quarter_turn : (a d v : Rad) → gal_lat_frm_eq_rule a d ≡ answered v → size v.0 ≼ HALF
unfolding gal_lat_in is_finite le neg add sub mul of_bits round
gal_lat_frm_eq_at_most_quarter_turn a d v answer =
    let p = radians_of gal_pole_dec in
    let m = rad ((radians_of gal_pole_asc).0 ⊖ a.0) in
    of_arcsine (gal_refusal a d) (sine_of d ⊗ sine_of p ⊕ cosine_of d ⊗ cosine_of p ⊗ cosine_of m) v answer
    (λ none.
    let n = lower_none (angle_refusal a) (latitude_refusal d) none in
    (within 32768
    (known (latitude_sine d n.1) ⊠ known (sine_between p pole_far)
    ⊞ known (latitude_cosine d n.1) ⊠ known (cosine_between p pole_far) ⊠ known (cosine_between m (pole_asc_far a n.0))) tt).finite)

pub gal_lat_frm_eq_finite : (a d v : Rad) → gal_lat_frm_eq_rule a d ≡ answered v → Finite v.0
gal_lat_frm_eq_finite a d v answer = finite_of_quarter_turn v (gal_lat_frm_eq_at_most_quarter_turn a d v answer)
