-- No answer of sine, cosine, tangent, arctangent and arcsine, called alone, is a NaN or an infinity, and the arctangent of accepted
-- numbers is refused by 14 only, exactly where both are zero: so is work that goes on from it.
use Rattle.std.specs.Prelude.{ℕ, ◌≡◌, refl, Bool, true, false, cond, ◌↔◌, T, Float, ◌≢◌}
use Rattle.std.proofs.Common.{sym, subst, lit<}
use Rattle.std.specs.Float.Ieee.{of_bits}
use Rattle.double.specs.rules.Sign.{is_finite}
use Rattle.double.specs.rules.Order.{Finite}
use Rattle.quantity.specs.declared.Rad.{Rad}
use Rattle.quantity.specs.rules.Answer.{Answer, answered, refused, unless, with}
use Rattle.quantity.specs.rules.Refusal.{past, steepest, number_refusal}
use Rattle.quantity.specs.laws.Refusal.{finite_steepest}
use Rattle.quantity.specs.laws.Steps.{refused_not_answered, same_value}
use Rattle.quantity.specs.laws.Accepted.{lower_none, answered_unless, past_accepted, number_accepted}
use Rattle.elementary.specs.rules.Sine.{farthest_alone, alone_refusal, sine_of, cosine_of, tangent_of, sine_rule, cosine_rule, tangent_refusal, tangent_rule}
use Rattle.elementary.specs.laws.Sine.{sine_finite, cosine_finite, tangent_finite}
use Rattle.elementary_arc.specs.rules.Arctangent.{arctangent_of, both_zero, arctangent_in, arctangent_refusal, arctangent_rule}
use Rattle.elementary_arc.specs.rules.Arcsine.{arcsine_in, arcsine_rule}
use Rattle.elementary_arc.specs.laws.Arctangent.{arctangent_refuses_fourteen, arctangent_in_finite}
use Rattle.elementary_arc.specs.laws.Arcsine.{arcsine_finite}

-- ---- sine, cosine, tangent

finite_farthest_alone : Finite farthest_alone
unfolding is_finite of_bits
finite_farthest_alone = tt

pub sine_answers_finite : (x : Rad) (v : Float) → sine_rule x ≡ answered v → Finite v
unfolding sine_rule
sine_answers_finite x v e =
    let a = answered_unless (alone_refusal x) (answered (sine_of x)) v e in
    rw (← same_value a.1) (sine_finite x (past_accepted x.0 farthest_alone 3 (lit< tt) finite_farthest_alone a.0))

pub cosine_answers_finite : (x : Rad) (v : Float) → cosine_rule x ≡ answered v → Finite v
unfolding cosine_rule
cosine_answers_finite x v e =
    let a = answered_unless (alone_refusal x) (answered (cosine_of x)) v e in
    rw (← same_value a.1) (cosine_finite x (past_accepted x.0 farthest_alone 3 (lit< tt) finite_farthest_alone a.0))

pub tangent_answers_finite : (x : Rad) (v : Float) → tangent_rule x ≡ answered v → Finite v
unfolding tangent_rule
tangent_answers_finite x v e =
    let a = answered_unless (tangent_refusal x) (answered (tangent_of x)) v e in
    let n = lower_none (alone_refusal x) (past x.0 steepest 4) a.0 in
    rw (← same_value a.1) (tangent_finite x (past_accepted x.0 steepest 4 (lit< tt) finite_steepest n.1))

-- ---- arctangent, arcsine

-- of numbers that are not refused 14 is the only refusal, and is given only of two zeros
pub arctangent_alone_refuses : (y x : Float) → arctangent_refusal y x ≡ 0 → (n : ℕ) → arctangent_rule y x ≡ refused n
    → (n ≡ 14) × T (both_zero y x)
unfolding arctangent_rule
arctangent_alone_refuses y x none n e =
    arctangent_refuses_fourteen y x n (subst (λ (k : ℕ). unless k (arctangent_in y x) ≡ refused n) none e)

-- work from an arctangent on that keeps its 14 and later meets none: 14 exactly where both numbers are zero
pub fourteen_of_zeros : {A : Type 0} (y x : Float) (work : Answer Rad → Answer A) → work (refused 14) ≡ refused 14
    → ((v : Rad) → work (answered v) ≢ refused 14) → work (arctangent_in y x) ≡ refused 14 ↔ T (both_zero y x)
unfolding arctangent_in
fourteen_of_zeros y x work kept none = by_case (both_zero y x)
  where
    by_case : (b : Bool) → work (cond b (refused 14) (answered (arctangent_of y x))) ≡ refused 14 ↔ T b
    by_case true = (λ e. tt, λ t. kept)
    by_case false = (λ e. absurd (none (arctangent_of y x) e), λ t. absurd t)

-- the arctangent as the whole work, or its angle changed
pub fourteen_at_end : (y x : Float) → arctangent_in y x ≡ refused 14 ↔ T (both_zero y x)
fourteen_at_end y x = fourteen_of_zeros y x (λ (a : Answer Rad). a) refl (λ v e. refused_not_answered (sym e))

pub fourteen_changed : (y x : Float) (f : Rad → Rad) → with f (arctangent_in y x) ≡ refused 14 ↔ T (both_zero y x)
fourteen_changed y x f = fourteen_of_zeros y x (with f) refl (λ v e. refused_not_answered (sym e))

-- the same of a rule, where its arguments are not refused
pub fourteen_accepted : {A B : Type 0} (n : ℕ) (a : Answer A) → (a ≡ refused 14 ↔ B) → n ≡ 0 → unless n a ≡ refused 14 ↔ B
fourteen_accepted n a h none = rw none h

pub arctangent_fourteen : (y x : Float) → arctangent_refusal y x ≡ 0 → arctangent_rule y x ≡ refused 14 ↔ T (both_zero y x)
unfolding arctangent_rule
arctangent_fourteen y x = fourteen_accepted (arctangent_refusal y x) (arctangent_in y x) (fourteen_at_end y x)

pub arctangent_answers_finite : (y x : Float) (v : Rad) → arctangent_rule y x ≡ answered v → Finite v.0
unfolding arctangent_rule
arctangent_answers_finite y x v e =
    let a = answered_unless (arctangent_refusal y x) (arctangent_in y x) v e in
    let n = lower_none (number_refusal y) (number_refusal x) a.0 in
    arctangent_in_finite y x v a.1 (number_accepted y n.0) (number_accepted x n.1)

pub arcsine_answers_finite : (s : Float) (v : Rad) → arcsine_rule s ≡ answered v → Finite v.0
unfolding arcsine_rule
arcsine_answers_finite s v e =
    let a = answered_unless (number_refusal s) (arcsine_in s) v e in
    arcsine_finite s (number_accepted s a.0) v a.1
