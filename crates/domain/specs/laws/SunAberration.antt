-- Solar aberration at a distance that is not refused is finite.
use Rattle.std.specs.Prelude.{ℕ, ◌≡◌, Float}
use Rattle.std.specs.Float.Ieee.{neg, mul, div, le, of_bits, round}
use Rattle.double.specs.rules.Sign.{is_finite}
use Rattle.double.specs.rules.Order.{Finite}
use Rattle.double.specs.notions.Range.{known, con, ◌⧄◌}
use Rattle.quantity.specs.rules.Answer.{answered, refused}
use Rattle.quantity.specs.rules.Refusal.{distance_refusal}
use Rattle.quantity.specs.rules.Angle.{deg}
use Rattle.quantity.specs.declared.Rad.{Rad}
use Rattle.quantity.specs.laws.Accepted.{distance_accepted}
use Rattle.helpers.specs.rules.Angle.{arc, radians_of}
use Rattle.aberr.specs.rules.Numbers.{n20·4898}
use Rattle.aberr.specs.rules.Sun.{sol_aberr_of, sol_aberr_rule}
use Rattle.domain_accepted.specs.notions.Outcome.{Outcome, Never}
use Rattle.domain_accepted.specs.laws.Outcome.{outcome_answered, rule_answers, rule_refuses}
use Rattle.domain_accepted.specs.laws.Near.{within}
use Rattle.domain_accepted.specs.notions.Within.{Angle}

module _ (dist : Float) where
  outcome : distance_refusal dist ≡ 0 → Outcome (Angle Finite) Never (answered (sol_aberr_of dist))
  unfolding sol_aberr_of is_finite le neg mul div of_bits round
  outcome none =
      outcome_answered (sol_aberr_of dist)
      (within 2 (con (neg (radians_of (deg (arc n20·4898))).0) ⧄ known (distance_accepted dist none)) tt).finite

  pub sol_aberr_finite : (v : Rad) → sol_aberr_rule dist ≡ answered v → Finite v.0
  sol_aberr_finite = rule_answers (distance_refusal dist) (answered (sol_aberr_of dist)) outcome

  pub sol_aberr_refuses : distance_refusal dist ≡ 0 → (n : ℕ) → sol_aberr_rule dist ≡ refused n → ⊥
  sol_aberr_refuses = rule_refuses (distance_refusal dist) (answered (sol_aberr_of dist)) outcome
