-- Days that are not refused: a century lies from −20 to 20, the span of two days, in centuries, from −41 to 41, and in years, where both
-- are doubles, from −4000 to 4000.
use Rattle.std.specs.Prelude.{◌≡◌, suc, ◌-◌, ◌*◌, ◌^◌, T, Float}
use Rattle.std.proofs.Math.Logic.{inl, inr}
use Rattle.std.proofs.Common.{arith}
use Rattle.std.specs.Float.Ieee.{binary64, neg, add, sub, div, le, of_bits, round, fits}
use Rattle.double.specs.rules.Operations.{◌⊖◌}
use Rattle.double.specs.rules.Sign.{is_finite}
use Rattle.double.specs.rules.Order.{◌≼◌, Between}
use Rattle.double.specs.rules.Table.{over}
use Rattle.double.specs.notions.Range.{known, con, ◌⊟◌, ◌⧄◌}
use Rattle.double.specs.notions.Grid.{grid}
use Rattle.double.specs.laws.Order.{le_refl, le_trans}
use Rattle.double.specs.laws.Between.{between}
use Rattle.double.specs.laws.Monotone.{sub_mono}
use Rattle.double.specs.laws.Interval.{bounded}
use Rattle.quantity.specs.declared.Rad.{Rad}
use Rattle.quantity.specs.rules.Refusal.{lower, epoch, days_around, day_refusal, angle_refusal, latitude_refusal}
use Rattle.quantity.specs.laws.Accepted.{lower_none}
use Rattle.helpers.specs.rules.Time.{days_of_century, century_of}
use Rattle.precess_angles.specs.rules.Numbers.{n2415020·3135, n36524·2199}
use Rattle.precess_angles.specs.rules.Days.{span_of, days_refusal, place_refusal}
use Rattle.precess_angles.specs.rules.Fk4.{fk4_century, fk4_span}
use Rattle.star_place.specs.rules.Place.{days_of_year, years_between}
use Rattle.star_place.specs.laws.Days.{finite_day, from_epoch, day_between}
use Rattle.domain_accepted.specs.notions.Within.{Within}
use Rattle.domain_accepted.specs.laws.Neighbours.{neighbours}

module _ (day : Float) (none : day_refusal day ≡ 0) where
  pub century_within : Within 20 (century_of day)
  unfolding is_finite le neg div of_bits round
  century_within = bounded binary64 (neg (over 20 1)) (over 20 1) (known (from_epoch day none) ⧄ con days_of_century) tt

  pub fk4_century_within : Within 41 (fk4_century day)
  unfolding is_finite le neg add sub div of_bits round
  fk4_century_within = bounded binary64 (neg (over 41 1)) (over 41 1) ((known (day_between day none) ⊟ con n2415020·3135) ⧄ con n36524·2199) tt

module _ (day1 day2 : Float) (none : days_refusal day1 day2 ≡ 0) where
  pub first_accepted : day_refusal day1 ≡ 0
  unfolding days_refusal
  first_accepted = (lower_none (day_refusal day1) (day_refusal day2) none).0

  pub second_accepted : day_refusal day2 ≡ 0
  unfolding days_refusal
  second_accepted = (lower_none (day_refusal day1) (day_refusal day2) none).1

  pub span_within : Within 41 (span_of day1 day2)
  unfolding is_finite le neg add sub div of_bits round
  span_within =
      bounded binary64 (neg (over 41 1)) (over 41 1)
      ((known (day_between day2 second_accepted) ⊟ known (day_between day1 first_accepted)) ⧄ con days_of_century) tt

  pub fk4_span_within : Within 41 (fk4_span day1 day2)
  unfolding is_finite le neg add sub div of_bits round
  fk4_span_within =
      bounded binary64 (neg (over 41 1)) (over 41 1)
      ((known (day_between day2 second_accepted) ⊟ known (day_between day1 first_accepted)) ⧄ con n36524·2199) tt

-- ---- the days' own ends, and the doubles before the first and after the last, which are refused

abbrev first_day : Float
first_day = over 1721045 1

abbrev before_first : Float
before_first = grid binary64 31 (1721045 * 2 ^ 32 - 1)

abbrev last_day : Float
last_day = over 3182045 1

abbrev after_last : Float
after_last = grid binary64 30 (suc (3182045 * 2 ^ 31))

module _ (day : Float) (F : T (fits binary64 day)) (none : day_refusal day ≡ 0) where
  not_after : after_last ≼ day → ⊥
  unfolding is_finite le neg add sub of_bits round
  not_after h =
      le_trans (after_last ⊖ epoch) (day ⊖ epoch) days_around
      (sub_mono binary64 after_last day epoch epoch tt (finite_day day none) tt tt h (le_refl epoch tt)) (from_epoch day none).to

  not_before : day ≼ before_first → ⊥
  unfolding is_finite le neg add sub of_bits round
  not_before h =
      le_trans (neg days_around) (day ⊖ epoch) (before_first ⊖ epoch) (from_epoch day none).from
      (sub_mono binary64 day before_first epoch epoch (finite_day day none) tt tt tt h (le_refl epoch tt))

  pub day_exact : Between first_day last_day day
  unfolding is_finite le round
  day_exact =
      let finite = finite_day day none in
      let from = neighbours 31 (1721045 * 2 ^ 32 - 1) (omega arith) day F finite in
      let to = neighbours 30 (3182045 * 2 ^ 31) (omega arith) day F finite in
      between tt tt
      (elim from [ inl h ↦ absurd (not_before h) | inr h ↦ le_trans first_day (grid binary64 31 (1721045 * 2 ^ 32)) day tt h ])
      (elim to [ inl h ↦ le_trans day (grid binary64 30 (3182045 * 2 ^ 31)) last_day h tt | inr h ↦ absurd (not_after h) ])

pub years_exact : (day1 day2 : Float) → T (fits binary64 day1) → T (fits binary64 day2) → days_refusal day1 day2 ≡ 0
    → Within 4000 (years_between day1 day2)
unfolding is_finite le neg add sub div of_bits round
years_exact day1 day2 F G none =
    bounded binary64 (neg (over 4000 1)) (over 4000 1)
    ((known (day_exact day2 G (second_accepted day1 day2 none)) ⊟ known (day_exact day1 F (first_accepted day1 day2 none))) ⧄ con days_of_year) tt

-- a place with two days
pub place_accepted : (long lat : Rad) (day1 day2 : Float) → place_refusal long lat day1 day2 ≡ 0
    → (angle_refusal long ≡ 0) × (latitude_refusal lat ≡ 0) × (days_refusal day1 day2 ≡ 0)
place_accepted long lat day1 day2 e =
    let n = lower_none (lower (angle_refusal long) (latitude_refusal lat)) (days_refusal day1 day2) e in
    let m = lower_none (angle_refusal long) (latitude_refusal lat) n.0 in
    (m.0, m.1, n.1)
