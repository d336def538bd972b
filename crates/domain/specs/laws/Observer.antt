-- What belongs to the observer, and the answer of an arctangent that goes into a sine.
use Rattle.std.specs.Prelude.{ℕ, ◌≡◌, Float}
use Rattle.std.specs.Float.Ieee.{neg, le, of_bits, round}
use Rattle.double.specs.rules.Sign.{is_finite}
use Rattle.double.specs.rules.Order.{NonZero}
use Rattle.double.specs.notions.Range.{known}
use Rattle.quantity.specs.declared.Rad.{Rad}
use Rattle.quantity.specs.declared.GeographPoint.{GeographPoint}
use Rattle.quantity.specs.rules.Refusal.{lower, angle_refusal, steep_refusal, height_refusal}
use Rattle.quantity.specs.rules.Angle.{rad}
use Rattle.elementary_arc.specs.rules.Arctangent.{arctangent_in}
use Rattle.quantity.specs.laws.Accepted.{lower_none}
use Rattle.parallax.specs.rules.Observer.{observer_refusal}
use Rattle.domain_accepted.specs.notions.Outcome.{Outcome}
use Rattle.domain_accepted.specs.notions.Within.{Angle, Within}
use Rattle.domain_accepted.specs.laws.Outcome.{outcome_wider}
use Rattle.domain_accepted.specs.laws.Elementary.{arctangent_outcome, arctangent_outcome_of, second_not_zero}
use Rattle.domain_accepted.specs.laws.Near.{within}

pub observer_accepted : (parallax : Rad) (place : GeographPoint) (height : Float) (sidereal : Rad)
    → observer_refusal parallax place height sidereal ≡ 0
    → (angle_refusal parallax ≡ 0) × (angle_refusal sidereal ≡ 0) × (angle_refusal (rad place.long) ≡ 0) × (steep_refusal (rad place.lat) ≡ 0) × (height_refusal height ≡ 0)
unfolding observer_refusal
observer_accepted parallax place height sidereal e =
    let long = rad place.long in
    let lat = rad place.lat in
    let n = lower_none (lower (angle_refusal parallax) (angle_refusal sidereal)) (lower (lower (angle_refusal long) (steep_refusal lat)) (height_refusal height)) e in
    let a = lower_none (angle_refusal parallax) (angle_refusal sidereal) n.0 in
    let b = lower_none (lower (angle_refusal long) (steep_refusal lat)) (height_refusal height) n.1 in
    let c = lower_none (angle_refusal long) (steep_refusal lat) b.0 in
    (a.0, a.1, c.0, c.1, b.1)

-- the answer of an arctangent goes into a sine
pub arctangent_near : {Q : ℕ → Type 0} → Q 14 → (y x : Float) → Within 1024 y → Within 1024 x
    → Outcome (Angle (Within 2048)) Q (arctangent_in y x)
unfolding is_finite le neg of_bits round
arctangent_near fourteen y x Y X =
    outcome_wider (λ v i. within 2048 (known i) tt) (arctangent_outcome fourteen y x Y.finite X.finite)

-- by a second number that is not zero
pub arctangent_near_of : {Q : ℕ → Type 0} (y x : Float) → Within 1024 y → Within 1024 x → NonZero x
    → Outcome (Angle (Within 2048)) Q (arctangent_in y x)
unfolding is_finite le neg of_bits round
arctangent_near_of y x Y X z =
    outcome_wider (λ v i. within 2048 (known i) tt) (arctangent_outcome_of y x Y.finite X.finite (second_not_zero y x z))
