-- The equatorial horizontal parallax of a distance that is not refused is answered: the arcsine never meets 7.
use Rattle.std.specs.Prelude.{ℕ, ◌≡◌, Float}
use Rattle.std.specs.Float.Ieee.{binary64, neg, add, sub, mul, div, le, lt, of_bits, of_int, to_unsigned}
use Rattle.double.specs.rules.Operations.{one, ◌⊘◌}
use Rattle.double.specs.rules.Sign.{bears_minus, size, is_finite}
use Rattle.double.specs.rules.Order.{◌≼◌, Finite, Between}
use Rattle.double.specs.notions.Range.{known, con, ◌⧄◌}
use Rattle.double.specs.laws.Interval.{bounded}
use Rattle.quantity.specs.rules.Angle.{deg, HALF}
use Rattle.quantity.specs.rules.Answer.{answered, refused}
use Rattle.quantity.specs.rules.Refusal.{distance_refusal}
use Rattle.quantity.specs.declared.Rad.{Rad}
use Rattle.elementary.specs.rules.Fold.{fold}
use Rattle.elementary.specs.rules.Sine.{folded_sine, farthest_alone}
use Rattle.quantity.specs.laws.Accepted.{distance_accepted}
use Rattle.helpers.specs.rules.Angle.{arc, radians_of}
use Rattle.parallax.specs.rules.Numbers.{n8·794}
use Rattle.parallax.specs.rules.Horizontal.{sun_parallax, eq_hz_parallax_in, eq_hz_parallax_rule}
use Rattle.domain_accepted.specs.notions.Outcome.{Outcome, Never}
use Rattle.domain_accepted.specs.laws.Outcome.{rule_answers, rule_refuses}
use Rattle.domain_accepted.specs.notions.Within.{Angle}
use Rattle.domain.specs.laws.Arcsine.{arcsine_within_one}

-- 8.794 seconds go into a sine
pub sun_parallax_far : size (radians_of (deg (arc n8·794))).0 ≼ farthest_alone
unfolding size le mul div of_bits
sun_parallax_far = tt

module _ (dist : Float) where
  -- the arcsine's argument is 1 at most in size
  ratio_between : distance_refusal dist ≡ 0 → Between (neg one) one (sun_parallax ⊘ dist)
  unfolding sun_parallax fold folded_sine bears_minus size is_finite le lt neg add sub mul div of_bits of_int to_unsigned
  ratio_between none = bounded binary64 (neg one) one (con sun_parallax ⧄ known (distance_accepted dist none)) tt

  outcome : distance_refusal dist ≡ 0 → Outcome (Angle (Between (neg HALF) HALF)) Never (eq_hz_parallax_in dist)
  unfolding eq_hz_parallax_in
  outcome none = arcsine_within_one (sun_parallax ⊘ dist) (ratio_between none)

  pub eq_hz_parallax_answers : (v : Rad) → eq_hz_parallax_rule dist ≡ answered v → Between (neg HALF) HALF v.0
  eq_hz_parallax_answers = rule_answers (distance_refusal dist) (eq_hz_parallax_in dist) outcome

  pub eq_hz_parallax_finite : (v : Rad) → eq_hz_parallax_rule dist ≡ answered v → Finite v.0
  eq_hz_parallax_finite v e = (eq_hz_parallax_answers v e).finite

  pub eq_hz_parallax_refuses : distance_refusal dist ≡ 0 → (n : ℕ) → eq_hz_parallax_rule dist ≡ refused n → ⊥
  eq_hz_parallax_refuses = rule_refuses (distance_refusal dist) (eq_hz_parallax_in dist) outcome
