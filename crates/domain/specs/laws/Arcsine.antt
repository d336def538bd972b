-- The arcsine of a number from −1.0 to 1.0 is answered: 7 is never met.
use Rattle.std.specs.Prelude.{ℕ, Float}
use Rattle.std.proofs.Common.{T_not}
use Rattle.std.specs.Float.Ieee.{neg, lt}
use Rattle.double.specs.rules.Operations.{one}
use Rattle.double.specs.rules.Sign.{size}
use Rattle.double.specs.rules.Order.{◌≼◌, Between}
use Rattle.double.specs.laws.Sign.{finite_size}
use Rattle.double.specs.laws.Order.{not_lt_of_le}
use Rattle.double.specs.laws.Between.{finite_one, between→size}
use Rattle.quantity.specs.rules.Angle.{HALF}
use Rattle.elementary_arc.specs.rules.Arcsine.{arcsine_in}
use Rattle.elementary_arc.specs.laws.Arcsine.{arcsine_refuses_seven}
use Rattle.domain_accepted.specs.notions.Outcome.{Outcome}
use Rattle.domain_accepted.specs.notions.Within.{Angle}
use Rattle.domain_accepted.specs.laws.Elementary.{arcsine_outcome}

pub arcsine_within_one : {Q : ℕ → Type 0} (s : Float) → Between (neg one) one s
    → Outcome (Angle (Between (neg HALF) HALF)) Q (arcsine_in s)
arcsine_within_one s i =
    let small : size s ≼ one = between→size one s i in
    record {
      answers = (arcsine_outcome {Q = λ (n : ℕ). Unit {0}} tt s i.finite).answers;
      refuses =
          λ n e. absurd
          (T_not (lt one (size s)) (not_lt_of_le (size s) one (rw (finite_size s) i.finite) finite_one small)
          (arcsine_refuses_seven s i.finite n e).1);
    }
