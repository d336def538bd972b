-- Rise, culmination and set of arguments that are not refused: the arc lies from 0 to PI, each fraction from 0 to 1, and the work meets
-- 15 and 16 only, so that 7 never follows them.
use Rattle.std.specs.Prelude.{ℕ, ◌≡◌, refl, cond, Float}
use Rattle.std.proofs.Common.{inl, inr}
use Rattle.std.specs.Float.{binary64}
use Rattle.std.specs.Float.Ieee.{neg, add, sub, mul, div, le, lt, of_bits, round}
use Rattle.double.specs.rules.Operations.{zero, one, two, ◌⊕◌, ◌⊖◌, ◌⊘◌}
use Rattle.double.specs.rules.Sign.{is_finite}
use Rattle.double.specs.rules.Order.{Finite, Between}
use Rattle.double.specs.rules.Table.{over}
use Rattle.double.specs.notions.Range.{known, con, ◌⊞◌, ◌⊟◌, ◌⊠◌, ◌⧄◌}
use Rattle.double.specs.laws.Order.{le_of_not_lt}
use Rattle.double.specs.laws.Between.{between}
use Rattle.double.specs.laws.Interval.{bounded}
use Rattle.quantity.specs.declared.Rad.{Rad}
use Rattle.quantity.specs.declared.EqPoint.{EqPoint}
use Rattle.quantity.specs.declared.GeographPoint.{GeographPoint}
use Rattle.quantity.specs.rules.Angle.{rad, PI, HALF}
use Rattle.quantity.specs.rules.Answer.{answered, refused, Triple, triple, taken_from}
use Rattle.quantity.specs.rules.Refusal.{lower, angle_refusal, latitude_refusal, steep_refusal}
use Rattle.elementary.specs.rules.Sine.{sine_of, cosine_of}
use Rattle.quantity.specs.laws.Accepted.{lower_none, steep_accepted}
use Rattle.elementary.specs.laws.Sine.{sine_between, cosine_steep}
use Rattle.elementary_arc.specs.rules.Arcsine.{arcsine_in}
use Rattle.helpers.specs.rules.Angle.{turn_in_radians}
use Rattle.helpers.specs.laws.Limit.{limited_days}
use Rattle.transit.specs.rules.Arc.{arc_cosine, arc_in}
use Rattle.transit.specs.rules.RiseCulmSet.{culmination_of, fractions, rise_culm_set_in, observer_refusal, rise_culm_set_refusal, rise_culm_set_rule}
use Rattle.domain_accepted.specs.notions.Outcome.{Outcome}
use Rattle.domain_accepted.specs.notions.Within.{Angle, Within, AllFinite}
use Rattle.domain_accepted.specs.laws.Accepted.{angle_between, latitude_sine, steep_far}
use Rattle.domain_accepted.specs.laws.Near.{within}
use Rattle.domain_accepted.specs.laws.Outcome.{outcome_answered, outcome_refused, outcome_cond, outcome_with, outcome_then}
use Rattle.domain_accepted.specs.laws.Outcome.{rule_answers, rule_refuses}
use Rattle.domain.specs.notions.Transit.{OfADay, FifteenOrSixteen}
use Rattle.domain.specs.laws.Arcsine.{arcsine_within_one}

-- ---- the arc

steep_sine : (x : Rad) → steep_refusal x ≡ 0 → Between (neg one) one (sine_of x)
steep_sine x none = sine_between x (steep_far x none)

steep_cosine : (x : Rad) → steep_refusal x ≡ 0 → Between (over 1 16384) two (cosine_of x)
steep_cosine x none = cosine_steep x (steep_accepted x none)

-- the quotient is finite: neither cosine comes near zero
quotient_within : (dec lat alt : Rad) → steep_refusal dec ≡ 0 → steep_refusal lat ≡ 0 → latitude_refusal alt ≡ 0
    → Within 536870912 (arc_cosine dec lat alt)
unfolding arc_cosine is_finite le neg add sub mul div of_bits round
quotient_within dec lat alt D P A =
    within 536870912
    ((known (latitude_sine alt A) ⊟ known (steep_sine lat P) ⊠ known (steep_sine dec D))
    ⧄ (known (steep_cosine lat P) ⊠ known (steep_cosine dec D))) tt

-- what is neither above 1 nor below −1 goes into the arcsine
arc_outcome : (c : Float) → Finite c → Outcome (Angle (Between zero PI)) FifteenOrSixteen (arc_in c)
unfolding arc_in taken_from is_finite le neg sub of_bits
arc_outcome c F =
    outcome_cond (lt one c) (refused 15) (cond (lt c (neg one)) (refused 16) (taken_from (rad HALF) (arcsine_in c)))
    (outcome_refused 15 (inl refl))
    (λ t. outcome_cond (lt c (neg one)) (refused 16) (taken_from (rad HALF) (arcsine_in c)) (outcome_refused 16 (inr refl))
    (λ u. outcome_with (λ (x : Rad). rad (HALF ⊖ x.0)) (λ x i. bounded binary64 zero PI (con HALF ⊟ known i) tt) (arcsine_in c)
    (arcsine_within_one c (between tt tt (le_of_not_lt c (neg one) F tt u) (le_of_not_lt one c tt F t)))))

-- from 0 to PI
pub arc_answers : (dec lat alt : Rad) → steep_refusal dec ≡ 0 → steep_refusal lat ≡ 0 → latitude_refusal alt ≡ 0
    → (arc : Rad) → arc_in (arc_cosine dec lat alt) ≡ answered arc → Between zero PI arc.0
arc_answers dec lat alt D P A = (arc_outcome (arc_cosine dec lat alt) (quotient_within dec lat alt D P A).finite).answers

-- ---- the three fractions

fractions_outcome : {Q : ℕ → Type 0} (m : Float) (arc : Rad) → Within 1024 m → Between zero PI arc.0 → Outcome OfADay Q (fractions m arc)
unfolding fractions is_finite le neg add sub div of_bits round
fractions_outcome m arc M A =
    let part = known A ⧄ con turn_in_radians in
    outcome_answered (triple _ _ _) (
      limited_days (m ⊖ arc.0 ⊘ turn_in_radians) (within 2048 (known M ⊟ part) tt).finite,
      limited_days m M.finite,
      limited_days (m ⊕ arc.0 ⊘ turn_in_radians) (within 2048 (known M ⊞ part) tt).finite,
    )

module _ (p : EqPoint) (sidereal : Rad) (place : GeographPoint) (alt : Rad) where
  outcome : rise_culm_set_refusal p sidereal place alt ≡ 0 → Outcome OfADay FifteenOrSixteen (rise_culm_set_in p sidereal place alt)
  unfolding observer_refusal rise_culm_set_refusal rise_culm_set_in is_finite le neg add sub div of_bits round
  outcome none =
      let asc = rad p.asc in
      let dec = rad p.dec in
      let long = rad place.long in
      let lat = rad place.lat in
      let star = lower_none (lower (angle_refusal asc) (steep_refusal dec)) (observer_refusal sidereal place alt) none in
      let observer =
      lower_none (lower (angle_refusal long) (steep_refusal lat)) (lower (angle_refusal sidereal) (latitude_refusal alt)) star.1 in
      let a = lower_none (angle_refusal asc) (steep_refusal dec) star.0 in
      let b = lower_none (angle_refusal long) (steep_refusal lat) observer.0 in
      let c = lower_none (angle_refusal sidereal) (latitude_refusal alt) observer.1 in
      let m =
      within 1024
      (((known (angle_between asc a.0) ⊞ known (angle_between long b.0)) ⊟ known (angle_between sidereal c.0))
      ⧄ con turn_in_radians) tt in
      outcome_then (λ (arc : Rad). fractions (culmination_of asc sidereal long) arc)
      (λ arc A. fractions_outcome (culmination_of asc sidereal long) arc m A)
      (arc_in (arc_cosine dec lat alt))
      (arc_outcome (arc_cosine dec lat alt) (quotient_within dec lat alt a.1 b.1 c.1).finite)

  pub rise_culm_set_answers : (v : Triple) → rise_culm_set_rule p sidereal place alt ≡ answered v → OfADay v
  rise_culm_set_answers = rule_answers (rise_culm_set_refusal p sidereal place alt) (rise_culm_set_in p sidereal place alt) outcome

  pub rise_culm_set_finite : (v : Triple) → rise_culm_set_rule p sidereal place alt ≡ answered v → AllFinite v
  rise_culm_set_finite (triple x y z) e =
      let i = rise_culm_set_answers (triple x y z) e in
      (i.0.finite, i.1.finite, i.2.finite)

  -- 15 and 16 only
  pub rise_culm_set_refuses : rise_culm_set_refusal p sidereal place alt ≡ 0 → (n : ℕ) → rise_culm_set_rule p sidereal place alt ≡ refused n
      → FifteenOrSixteen n
  rise_culm_set_refuses = rule_refuses (rise_culm_set_refusal p sidereal place alt) (rise_culm_set_in p sidereal place alt) outcome
