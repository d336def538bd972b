-- What is known of an angle that is not refused on the circle.
use Rattle.std.specs.Prelude.{◌≡◌, Bool, true, false, cond, ℕ, T}
use Rattle.std.proofs.Common.{arith}
use Rattle.std.specs.Float.Ieee.{le, lt}
use Rattle.double.specs.rules.Operations.{zero}
use Rattle.double.specs.rules.Sign.{is_finite}
use Rattle.double.specs.rules.Order.{Finite, ◌≼◌}
use Rattle.quantity.specs.declared.Deg.{Deg}
use Rattle.helpers.specs.rules.Angle.{turn_in_degrees}
use Rattle.helpers.specs.rules.Circle.{circle_refusal}

module _ (x : Deg) (e : circle_refusal x ≡ 0) where
  finite_then : (t : Bool) (n : ℕ) → cond t n 1 ≡ 0 → (T t) × (n ≡ 0)
  finite_then true n e = (tt, e)
  finite_then false n e = absurd (omega arith)

  within_then : (t : Bool) (n : ℕ) → cond t n 3 ≡ 0 → (T t) × (n ≡ 0)
  within_then true n e = (tt, e)
  within_then false n e = absurd (omega arith)

  pub circle_finite : Finite x.0
  unfolding circle_refusal
  circle_finite = (finite_then (is_finite x.0) _ e).0

  rest : cond {A = ℕ} (le zero x.0) (cond (lt x.0 turn_in_degrees) 0 3) 3 ≡ 0
  unfolding circle_refusal
  rest = (finite_then (is_finite x.0) _ e).1

  pub circle_from_zero : zero ≼ x.0
  circle_from_zero = (within_then (le zero x.0) _ rest).0

  pub circle_below_turn : T (lt x.0 turn_in_degrees)
  circle_below_turn = (within_then (lt x.0 turn_in_degrees) 0 (within_then (le zero x.0) _ rest).1).0
