-- On days and at a place that are not refused, `heading` is the public rules one after the other: the batch's of a star, apparent sidereal time, the
-- hour angle, azimuth, altitude and the fold into one turn.
use Rattle.std.specs.Prelude.{ℕ, ◌≡◌, refl, Bool, true, false, cond, T, ℤ, Float}
use Rattle.std.proofs.Common.{sym, ap, ◌∙◌}
use Rattle.double.specs.rules.Sign.{is_finite}
use Rattle.double.specs.rules.Order.{Finite}
use Rattle.quantity.specs.declared.Deg.{Deg}
use Rattle.quantity.specs.declared.Rad.{Rad}
use Rattle.quantity.specs.rules.Angle.{deg, rad}
use Rattle.quantity.specs.rules.Answer.{Answer, answered, refused, Pair, first, second, triple, unless, then}
use Rattle.quantity.specs.rules.Refusal.{angle_refusal, latitude_refusal}
use Rattle.quantity.specs.laws.Answer.{then_cong}
use Rattle.edition.specs.declared.Edition.{Edition}
use Rattle.units.specs.rules.Degrees.{to_degrees}
use Rattle.helpers.specs.rules.Angle.{within360, limit_to_360_rule}
use Rattle.coords.specs.rules.HourAngle.{hr_angl_frm_observer_long_rule}
use Rattle.coords.specs.rules.Horizon.{az_frm_eq_rule, alt_frm_eq_rule}
use Rattle.precess_angles.specs.rules.Days.{days_refusal}
use Rattle.batch.specs.rules.Star.{star_rule}
use Rattle.sidereal.specs.rules.Apparent.{apparent_of, apparent_sidereal_rule}
use Rattle.helpers.specs.rules.Circle.{below_turn, on_circle}
use Rattle.heading.specs.rules.Sky.{northward, bearings, sky_from, sky_in, sky_under}
use Rattle.heading.specs.rules.Heading.{record_of, heading_refusal, heading_in, heading_rule}
use Rattle.conditions.specs.laws.Azimuth.{azimuth_at_most_half_turn}
use Rattle.domain_accepted.specs.laws.Accepted.{none_of_three}
use Rattle.domain.specs.laws.Days.{second_accepted}
use Rattle.domain_heading.specs.notions.Composed.{turned_rule, in_sky_rule, composed}
use Rattle.domain_heading.specs.notions.Sky.{turned}
use Rattle.domain_heading.specs.laws.Turn.{turned_between}

-- two works that go on alike from what is answered
then_alike : {A B : Type 0} (a : Answer A) (f g : A → Answer B) → ((x : A) → a ≡ answered x → f x ≡ g x) → then a f ≡ then a g
unfolding then
then_alike (answered x) f g h = h x refl
then_alike (refused n) f g h = refl

-- the fold refuses nothing that is finite
fold_taken : (x : Float) → Finite x → limit_to_360_rule (deg x) ≡ answered (within360 (deg x))
fold_taken x F = by_case (is_finite x) F
  where
    by_case : (b : Bool) → T b → unless (cond b 0 1) (answered (within360 (deg x))) ≡ answered (within360 (deg x))
    by_case true t = refl
    by_case false t = absurd t

bearings_composed : (az alt : Rad) → Finite (turned az) → bearings az alt ≡ turned_rule az alt
unfolding bearings northward on_circle then
bearings_composed az alt F =
    ap (λ (a : Answer Deg). then a (λ (x : Deg). answered (triple (below_turn x).0 (to_degrees az).0 (to_degrees alt).0))) (sym (fold_taken (turned az) F))

pub sky_composed : (h d p : Rad) → sky_in h d p ≡ in_sky_rule h d p
unfolding sky_in sky_from
sky_composed h d p =
    then_alike (az_frm_eq_rule h d p) (λ (az : Rad). sky_from az h d p) (λ (az : Rad). then (alt_frm_eq_rule h d p) (λ (alt : Rad). turned_rule az alt))
    (λ az e.
    then_cong (alt_frm_eq_rule h d p) (λ (alt : Rad). bearings az alt) (λ (alt : Rad). turned_rule az alt)
    (λ alt. bearings_composed az alt (turned_between az (azimuth_at_most_half_turn h d p az e)).finite))

pub heading_composed : (edition : Edition) (asc : ℕ) (dec ascRate decRate : ℤ) (day1 day2 : Float) (long lat : Rad)
    → heading_refusal day1 day2 long lat ≡ 0
    → heading_rule edition asc dec ascRate decRate day1 day2 long lat ≡ composed edition asc dec ascRate decRate day1 day2 long lat
unfolding heading_rule heading_in heading_refusal sky_under apparent_sidereal_rule then
heading_composed edition asc dec ascRate decRate day1 day2 long lat none =
    let star = record_of asc dec ascRate decRate in
    let n = none_of_three (days_refusal day1 day2) (angle_refusal long) (latitude_refusal lat) none in
    ap (λ (k : ℕ). unless k (heading_in edition star day1 day2 long lat)) none
    ∙ then_cong (star_rule edition star day1 day2) (λ (p : Pair). sky_under (apparent_of day2) (rad (first p)) (rad (second p)) long lat) _
    (λ p.
    then_cong (hr_angl_frm_observer_long_rule (apparent_of day2) long (rad (first p))) (λ (h : Rad). sky_in h (rad (second p)) lat)
    (λ (h : Rad). in_sky_rule h (rad (second p)) lat) (λ h. sky_composed h (rad (second p)) lat)
    ∙ ap
    (λ (k : ℕ). then (unless k (answered (apparent_of day2))) (λ (g : Rad). then (hr_angl_frm_observer_long_rule g long (rad (first p))) (λ (h : Rad). in_sky_rule h (rad (second p)) lat)))
    (sym (second_accepted day1 day2 n.0)))
