-- Days that are not refused: each lies from before the first to after the last, and between two are at most 4001 years. (Between two
-- doubles at most 4000: `years_exact` in `domain`.)
use Rattle.std.specs.Prelude.{◌≡◌, Float}
use Rattle.std.proofs.Math.Logic.{inl, inr}
use Rattle.std.proofs.Common.{arith}
use Rattle.std.specs.Float.{nan, inf, fin}
use Rattle.std.specs.Float.Ieee.{binary64, neg, add, sub, div, le, of_bits, round}
use Rattle.double.specs.rules.Operations.{◌⊖◌}
use Rattle.double.specs.rules.Sign.{is_finite}
use Rattle.double.specs.rules.Order.{◌≼◌, Finite, Between}
use Rattle.double.specs.rules.Table.{over}
use Rattle.double.specs.notions.Range.{known, con, ◌⊟◌, ◌⧄◌}
use Rattle.double.specs.laws.Order.{le_refl, le_trans, le_total}
use Rattle.double.specs.laws.Between.{between, size→between}
use Rattle.double.specs.laws.Monotone.{sub_mono}
use Rattle.double.specs.laws.Interval.{bounded}
use Rattle.quantity.specs.rules.Refusal.{epoch, days_around, day_refusal}
use Rattle.quantity.specs.laws.Accepted.{day_accepted}
use Rattle.star_place.specs.rules.Place.{days_of_year, years_between}

finite_epoch : Finite epoch
unfolding is_finite of_bits
finite_epoch = tt

pub finite_day : (day : Float) → day_refusal day ≡ 0 → Finite day
unfolding day_refusal is_finite
finite_day nan e = absurd (omega arith)
finite_day (inf s) e = absurd (omega arith)
finite_day (fin s m c) e = tt

-- a day before the first and one after the last
abbrev before : Float
before = over 1721044 1

abbrev after : Float
after = over 3182046 1

module _ (day : Float) (none : day_refusal day ≡ 0) where
  pub from_epoch : Between (neg days_around) days_around (day ⊖ epoch)
  from_epoch = size→between days_around (day ⊖ epoch) (unfold is_finite of_bits in tt) (day_accepted day none)

  not_after : after ≼ day → ⊥
  unfolding is_finite le neg add sub of_bits round
  not_after h =
      le_trans (after ⊖ epoch) (day ⊖ epoch) days_around
      (sub_mono binary64 after day epoch epoch tt (finite_day day none) finite_epoch finite_epoch h (le_refl epoch finite_epoch)) from_epoch.to

  not_before : day ≼ before → ⊥
  unfolding is_finite le neg add sub of_bits round
  not_before h =
      le_trans (neg days_around) (day ⊖ epoch) (before ⊖ epoch) from_epoch.from
      (sub_mono binary64 day before epoch epoch (finite_day day none) tt finite_epoch finite_epoch h (le_refl epoch finite_epoch))

  pub day_between : Between before after day
  day_between =
      let F = finite_day day none in
      let B : Finite before = unfold is_finite round in tt in
      let A : Finite after = unfold is_finite round in tt in
      between B A (elim (le_total before day B F) [ inl h ↦ h | inr h ↦ absurd (not_before h) ])
      (elim (le_total day after F A) [ inl h ↦ h | inr h ↦ absurd (not_after h) ])

pub years_within : (day1 day2 : Float) → day_refusal day1 ≡ 0 → day_refusal day2 ≡ 0
    → Between (neg (over 4001 1)) (over 4001 1) (years_between day1 day2)
unfolding is_finite le neg add sub div of_bits round
years_within day1 day2 first second =
    bounded binary64 (neg (over 4001 1)) (over 4001 1) ((known (day_between day2 second) ⊟ known (day_between day1 first)) ⧄ con days_of_year) tt
