-- Sidereal time, mean and apparent: a day that is not refused is answered, and each answer is finite and lies from 0 to a full turn.
use Rattle.std.specs.Prelude.{ℕ, ◌≡◌, refl, Float}
use Rattle.std.specs.Float.Ieee.{neg, add, sub, mul, div, le, of_bits, round, binary64}
use Rattle.double.specs.rules.Operations.{zero, one, ◌⊖◌}
use Rattle.double.specs.rules.Sign.{is_finite}
use Rattle.double.specs.rules.Order.{Finite, Between}
use Rattle.double.specs.notions.Range.{known, con, ◌⊞◌, ◌⊟◌, ◌⊠◌, ◌⧄◌}
use Rattle.double.specs.laws.Between.{size→between}
use Rattle.double.specs.laws.Interval.{bounded}
use Rattle.quantity.specs.declared.Rad.{Rad}
use Rattle.quantity.specs.rules.Answer.{answered, refused, pair}
use Rattle.quantity.specs.rules.Refusal.{epoch, days_around, day_refusal}
use Rattle.elementary.specs.rules.Sine.{cosine_of}
use Rattle.quantity.specs.laws.Accepted.{day_accepted}
use Rattle.elementary.specs.laws.Sine.{cosine_between}
use Rattle.helpers.specs.rules.Angle.{turn_in_degrees, turn_in_radians, degree}
use Rattle.helpers.specs.rules.Time.{century_of}
use Rattle.helpers.specs.laws.Limit.{limited_degrees, limited_radians}
use Rattle.nutation_table.specs.rules.Day.{nutation_of}
use Rattle.chain.specs.rules.Obliquity.{mean_obliquity_of, true_obliquity}
use Rattle.sidereal.specs.rules.Numbers.{n280·46061837, n360·98564736629, n0·000387933, n38710000}
use Rattle.sidereal.specs.rules.Mean.{mean_in_degrees, mean_of, mean_sidereal_rule}
use Rattle.sidereal.specs.rules.Apparent.{apparent_from, apparent_of, apparent_sidereal_rule}
use Rattle.domain_accepted.specs.notions.Outcome.{Never}
use Rattle.domain_accepted.specs.notions.Within.{Within, Angle}
use Rattle.domain_accepted.specs.laws.Outcome.{outcome_answered, rule_answers, rule_refuses}
use Rattle.domain_accepted.specs.laws.Near.{within}
use Rattle.domain.specs.laws.Days.{century_within}
use Rattle.domain.specs.laws.NutationSum.{nutation_outcome}
use Rattle.domain.specs.laws.Chain.{obliquity_far}

-- from 0 to a full turn, which is finite
abbrev pub InTurn : Float → Type 0
InTurn = Between zero turn_in_radians

module _ (day : Float) (none : day_refusal day ≡ 0) where
  from_epoch : Between (neg days_around) days_around (day ⊖ epoch)
  from_epoch = size→between days_around (day ⊖ epoch) (unfold is_finite of_bits in tt) (day_accepted day none)

  -- the degrees before they are folded
  degrees_within : Within 300000000 (mean_in_degrees (day ⊖ epoch) (century_of day)).0
  unfolding mean_in_degrees is_finite le neg add sub mul div of_bits round
  degrees_within =
      let D = known from_epoch in
      let T = known (century_within day none) in
      within 300000000
      (((con n280·46061837 ⊞ (con n360·98564736629 ⊠ D)) ⊞ ((con n0·000387933 ⊠ T) ⊠ T)) ⊟ (((T ⊠ T) ⊠ T) ⧄ con n38710000)) tt

  pub mean_in_turn : InTurn (mean_of day).0
  unfolding mean_of is_finite le neg mul of_bits
  mean_in_turn =
      bounded binary64 zero turn_in_radians (known (limited_degrees (mean_in_degrees (day ⊖ epoch) (century_of day)).0 degrees_within.finite) ⊠ con degree) tt

  cosine_near : Between (neg one) one (cosine_of (true_obliquity (mean_obliquity_of day) (nutation_of day).oblq))
  cosine_near = cosine_between (true_obliquity (mean_obliquity_of day) (nutation_of day).oblq) (obliquity_far day none)

  nutation_small : Within 1 (nutation_of day).long.0
  nutation_small = ((nutation_outcome day none).answers (pair (nutation_of day).long.0 (nutation_of day).oblq.0) refl).0

  pub apparent_in_turn : InTurn (apparent_of day).0
  unfolding apparent_of apparent_from is_finite le neg add mul of_bits round
  apparent_in_turn =
      limited_radians _ (within 8 (known mean_in_turn ⊞ (known nutation_small ⊠ known cosine_near)) tt).finite

module _ (day : Float) where
  pub mean_sidereal_answers : (v : Rad) → mean_sidereal_rule day ≡ answered v → InTurn v.0
  unfolding mean_sidereal_rule
  mean_sidereal_answers =
      rule_answers {P = Angle InTurn} {Q = Never} (day_refusal day) (answered (mean_of day)) (λ none. outcome_answered (mean_of day) (mean_in_turn day none))

  pub mean_sidereal_refuses : day_refusal day ≡ 0 → (n : ℕ) → mean_sidereal_rule day ≡ refused n → ⊥
  unfolding mean_sidereal_rule
  mean_sidereal_refuses =
      rule_refuses {P = Angle InTurn} {Q = Never} (day_refusal day) (answered (mean_of day)) (λ none. outcome_answered (mean_of day) (mean_in_turn day none))

  pub apparent_sidereal_answers : (v : Rad) → apparent_sidereal_rule day ≡ answered v → InTurn v.0
  unfolding apparent_sidereal_rule
  apparent_sidereal_answers =
      rule_answers {P = Angle InTurn} {Q = Never} (day_refusal day) (answered (apparent_of day)) (λ none. outcome_answered (apparent_of day) (apparent_in_turn day none))

  pub apparent_sidereal_refuses : day_refusal day ≡ 0 → (n : ℕ) → apparent_sidereal_rule day ≡ refused n → ⊥
  unfolding apparent_sidereal_rule
  apparent_sidereal_refuses =
      rule_refuses {P = Angle InTurn} {Q = Never} (day_refusal day) (answered (apparent_of day)) (λ none. outcome_answered (apparent_of day) (apparent_in_turn day none))
