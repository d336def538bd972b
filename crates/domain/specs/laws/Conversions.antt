-- Seconds of arc and of time to degrees, and degrees to radians: every finite double is answered, by a finite number. That x is a double
-- is said by `fits binary64 x`, which every f64 has.
use Rattle.std.specs.Prelude.{ℕ, ◌≡◌, refl, Bool, true, false, cond, T, Float, Result, Ok, Err}
use Rattle.std.proofs.Common.{sym}
use Rattle.std.specs.Float.Ieee.{binary64, neg, mul, div, le, fits, of_bits}
use Rattle.std.specs.Float.Ieee.Bits.{of_bits-fits}
use Rattle.double.specs.rules.Operations.{bits}
use Rattle.double.specs.rules.Sign.{is_finite}
use Rattle.double.specs.rules.Order.{Finite}
use Rattle.double.specs.notions.Range.{known, con, ◌⊠◌, ◌⧄◌}
use Rattle.double.specs.notions.Greatest.{greatest}
use Rattle.double.specs.laws.Interval.{bounded}
use Rattle.double.specs.laws.Greatest.{double_between}
use Rattle.quantity.specs.declared.Refusal.{Refusal}
use Rattle.quantity.specs.declared.Deg.{Deg}
use Rattle.quantity.specs.declared.Rad.{Rad}
use Rattle.quantity.specs.rules.Answer.{answered, refused, shown, unless, number}
use Rattle.quantity.specs.rules.Refusal.{number_refusal}
use Rattle.quantity.specs.rules.Angle.{deg}
use Rattle.quantity.specs.laws.Steps.{refused_not_answered}
use Rattle.quantity.specs.laws.Accepted.{number_accepted}
use Rattle.helpers.specs.rules.Angle.{seconds_of_degree, degrees_of_hour, arc, hour_arc, deg_frm_dms_rule, deg_frm_hms_rule, degree, radians_of, to_radians_rule}
use Rattle.domain_accepted.specs.notions.Outcome.{Never}
use Rattle.domain_accepted.specs.laws.Outcome.{outcome_answered, rule_answers}
use Rattle.domain.specs.notions.Answers.{FiniteDegrees, FiniteRadians}

-- ---- a number is refused only where it is not finite, and by 1

refused_number : {A : Type 0} (x : Float) (a : A) (n : ℕ) → unless (number_refusal x) (answered a) ≡ refused n
    → (is_finite x ≡ false) × (n ≡ 1)
refused_number {A} x a n e = by_case (is_finite x) e
  where
    by_case : (b : Bool) → unless (cond b 0 1) (answered a) ≡ refused n → (b ≡ false) × (n ≡ 1)
    by_case true e = absurd (refused_not_answered (sym e))
    by_case false e = (refl, cc)

-- ---- the conversions: every finite double x is answered, by a finite number

module _ (x : Float) where
  module _ (F : T (fits binary64 x)) where
    arc_finite : Finite x → Finite (arc x)
    unfolding is_finite le neg div of_bits
    arc_finite p = (bounded binary64 (neg greatest) greatest (known (double_between x F p) ⧄ con seconds_of_degree) tt).finite

    hour_arc_finite : Finite x → Finite (hour_arc x)
    unfolding is_finite le neg mul div of_bits
    hour_arc_finite p =
        (bounded binary64 (neg greatest) greatest (con degrees_of_hour ⊠ (known (double_between x F p) ⧄ con seconds_of_degree)) tt).finite

    pub deg_frm_dms_finite : (v : Deg) → deg_frm_dms_rule x ≡ answered v → Finite v.0
    deg_frm_dms_finite v answer =
        rule_answers {P = λ (v : Deg). Finite v.0} {Q = Never} (number_refusal x) (answered (deg (arc x)))
        (λ none. outcome_answered (deg (arc x)) (arc_finite (number_accepted x none))) v answer

    pub deg_frm_hms_finite : (v : Deg) → deg_frm_hms_rule x ≡ answered v → Finite v.0
    deg_frm_hms_finite v answer =
        rule_answers {P = λ (v : Deg). Finite v.0} {Q = Never} (number_refusal x) (answered (deg (hour_arc x)))
        (λ none. outcome_answered (deg (hour_arc x)) (hour_arc_finite (number_accepted x none))) v answer

  pub deg_frm_dms_refuses : (n : ℕ) → deg_frm_dms_rule x ≡ refused n → (is_finite x ≡ false) × (n ≡ 1)
  deg_frm_dms_refuses n e = refused_number x (deg (arc x)) n e

  pub deg_frm_hms_refuses : (n : ℕ) → deg_frm_hms_rule x ≡ refused n → (is_finite x ≡ false) × (n ≡ 1)
  deg_frm_hms_refuses n e = refused_number x (deg (hour_arc x)) n e

module _ (x : Deg) where
  module _ (F : T (fits binary64 x.0)) where
    radians_finite : Finite x.0 → Finite (radians_of x).0
    unfolding is_finite le neg mul of_bits
    radians_finite p = (bounded binary64 (neg greatest) greatest (known (double_between x.0 F p) ⊠ con degree) tt).finite

    pub to_radians_finite : (v : Rad) → to_radians_rule x ≡ answered v → Finite v.0
    to_radians_finite v answer =
        rule_answers {P = λ (v : Rad). Finite v.0} {Q = Never} (number_refusal x.0) (answered (radians_of x))
        (λ none. outcome_answered (radians_of x) (radians_finite (number_accepted x.0 none))) v answer

  pub to_radians_refuses : (n : ℕ) → to_radians_rule x ≡ refused n → (is_finite x.0 ≡ false) × (n ≡ 1)
  to_radians_refuses n e = refused_number x.0 (radians_of x) n e

-- ---- of calls: r is an answer that meets the contract of the function, x an f64

module _ (x : Float) (F : T (fits binary64 x)) where
  pub deg_frm_dms_call : (r : Result Deg Refusal) → shown r ≡ deg_frm_dms_rule x → FiniteDegrees r
  deg_frm_dms_call (Ok v) meets = deg_frm_dms_finite x F v (sym meets)
  deg_frm_dms_call (Err n) meets = (deg_frm_dms_refuses x (number n) (sym meets)).1

  pub deg_frm_hms_call : (r : Result Deg Refusal) → shown r ≡ deg_frm_hms_rule x → FiniteDegrees r
  deg_frm_hms_call (Ok v) meets = deg_frm_hms_finite x F v (sym meets)
  deg_frm_hms_call (Err n) meets = (deg_frm_hms_refuses x (number n) (sym meets)).1

pub to_radians_call : (x : Deg) → T (fits binary64 x.0) → (r : Result Rad Refusal) → shown r ≡ to_radians_rule x → FiniteRadians r
to_radians_call x F (Ok v) meets = to_radians_finite x F v (sym meets)
to_radians_call x F (Err n) meets = (to_radians_refuses x (number n) (sym meets)).1

-- ---- of bit patterns, with no premise: `bits n` fits for every n, and each double is one of them

module _ (n : ℕ) where
  pub deg_frm_dms_finite_of_bits : (v : Deg) → deg_frm_dms_rule (bits n) ≡ answered v → Finite v.0
  deg_frm_dms_finite_of_bits = deg_frm_dms_finite (bits n) (of_bits-fits binary64 n)

  pub deg_frm_hms_finite_of_bits : (v : Deg) → deg_frm_hms_rule (bits n) ≡ answered v → Finite v.0
  deg_frm_hms_finite_of_bits = deg_frm_hms_finite (bits n) (of_bits-fits binary64 n)

  pub to_radians_finite_of_bits : (v : Rad) → to_radians_rule (deg (bits n)) ≡ answered v → Finite v.0
  to_radians_finite_of_bits = to_radians_finite (deg (bits n)) (of_bits-fits binary64 n)
