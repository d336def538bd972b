-- What arctangent, arcsine and root answer to numbers met in the work: 14 and 7 are the only refusals.
use Rattle.std.specs.Prelude.{ℕ, suc, ◌+◌, ◌*◌, ◌≤◌, ◌≡◌, refl, Bool, true, not, cond, ℤ, T, eqb, Float}
use Rattle.std.proofs.Common.{sym, ◌∙◌, zero-mul, mul-pos, zero-lt-suc, mul-le-mul_right, arith, eqb→eq, lt→ltb, T_not}
use Rattle.std.proofs.Math.Path.{ap, subst}
use Rattle.std.proofs.Math.Bool.{false}
use Rattle.std.proofs.Math.Dec.{eqb-suc-zero, not_T}
use Rattle.std.specs.Float.{nan, inf, fin, Format}
use Rattle.std.specs.Float.Ieee.{binary64, unlike, up, down, round, neg, add, sub, mul, div, fits, eq, le, lt, of_bits}
use Rattle.std.specs.Float.Ieee.Bits.{is_true}
use Rattle.std.specs.Float.Ieee.Fits.{and_l, and_r, add-fits, up_pos, down_pos}
use Rattle.std.specs.Float.Ieee.Order.{round_mono}
use Rattle.double.specs.rules.Operations.{zero, one, ◌⊕◌, ◌⊗◌, ◌⊘◌}
use Rattle.double.specs.rules.Sign.{bears_minus, negated_if, size, is_finite}
use Rattle.double.specs.rules.Order.{◌≼◌, is_zero, NonZero, Finite, Plus, Between}
use Rattle.double.specs.laws.Tests.{holds}
use Rattle.double.specs.laws.Sign.{neg_neg, no_minus_of_plus}
use Rattle.double.specs.laws.Order.{le→below, minus_le_plus}
use Rattle.double.specs.laws.Zero.{zero_neg}
use Rattle.double.specs.laws.Exact.{round_own}
use Rattle.double.specs.laws.Between.{nonzero_of_positive, size→between}
use Rattle.double.specs.laws.Rounding.{round_neg, round_zero, round_plus}
use Rattle.double.specs.laws.NearZero.{add_plus}
use Rattle.quantity.specs.declared.Rad.{Rad}
use Rattle.quantity.specs.rules.Angle.{PI, HALF}
use Rattle.quantity.specs.rules.Answer.{answered}
use Rattle.quantity.specs.laws.Steps.{same_value}
use Rattle.double.specs.rules.Count.{IsFromZero}
use Rattle.root.specs.rules.Root.{root_of, root_rule}
use Rattle.root.specs.laws.Root.{root_from_zero, root_answered}
use Rattle.elementary_arc.specs.rules.Arctangent.{supplement_if, both_zero, arctangent_of, arctangent_in}
use Rattle.elementary_arc.specs.rules.Arcsine.{arcsine_in}
use Rattle.elementary_arc.specs.laws.Arctangent.{arctangent_in_at_most_half, arctangent_in_at_most_pi, arctangent_refuses_fourteen, arctangent_answered}
use Rattle.elementary_arc.specs.laws.Arcsine.{arcsine_at_most_half, arcsine_refuses_seven}
use Rattle.domain_accepted.specs.notions.Outcome.{Outcome}
use Rattle.domain_accepted.specs.notions.Within.{Angle}
use Rattle.domain_accepted.specs.laws.Outcome.{outcome_answered, outcome_refused}

-- ---- arctangent

at_most_half_a_turn : (y x : Float) → Finite y → Finite x → (v : Rad) → arctangent_in y x ≡ answered v → Between (neg PI) PI v.0
at_most_half_a_turn y x p q v e = size→between PI v.0 (unfold is_finite of_bits in tt) (arctangent_in_at_most_pi y x v e p q)

-- half a turn at most, or 14
pub arctangent_outcome : {Q : ℕ → Type 0} → Q 14 → (y x : Float) → Finite y → Finite x
    → Outcome (Angle (Between (neg PI) PI)) Q (arctangent_in y x)
arctangent_outcome {Q} fourteen y x p q =
    record {
      answers = at_most_half_a_turn y x p q;
      refuses = λ n e. subst Q (sym (arctangent_refuses_fourteen y x n e).0) fourteen;
    }

-- and never refused where not both numbers are zero
pub arctangent_outcome_of : {Q : ℕ → Type 0} (y x : Float) → Finite y → Finite x → T (not (both_zero y x))
    → Outcome (Angle (Between (neg PI) PI)) Q (arctangent_in y x)
arctangent_outcome_of y x p q some =
    record {
      answers = at_most_half_a_turn y x p q;
      refuses = λ n e. absurd (T_not (both_zero y x) some (arctangent_refuses_fourteen y x n e).1);
    }

pub second_not_zero : (y x : Float) → NonZero x → T (not (both_zero y x))
second_not_zero y x z = not_T (both_zero y x) (λ (t : T (both_zero y x)). T_not (is_zero x) z (and_r (is_zero y) (is_zero x) t))

-- the second number may be an infinity: the angle is then zero or half a turn in size
zero_or_pi : (s t : Bool) → Between (neg PI) PI (negated_if s (size (supplement_if t zero)))
unfolding size neg is_finite le sub of_bits round
zero_or_pi true true = size→between PI _ tt tt
zero_or_pi true false = size→between PI _ tt tt
zero_or_pi false true = size→between PI _ tt tt
zero_or_pi false false = size→between PI _ tt tt

at_infinity : (s t : Bool) (m : ℕ) (e : ℤ) → Angle (Between (neg PI) PI) (arctangent_of (fin s m e) (inf t))
unfolding arctangent_of bears_minus size le div mul add of_bits round
at_infinity s t m e = zero_or_pi s t

pub arctangent_number_outcome : {Q : ℕ → Type 0} (y x : Float) → Finite y → (x ≡ nan → ⊥) → NonZero x
    → Outcome (Angle (Between (neg PI) PI)) Q (arctangent_in y x)
arctangent_number_outcome y nan p q z = absurd (q refl)
arctangent_number_outcome y (fin t m e) p q z =
    arctangent_outcome_of y (fin t m e) p (unfold is_finite in tt) (second_not_zero y (fin t m e) z)
arctangent_number_outcome nan (inf t) p q z = absurd (unfold is_finite in p)
arctangent_number_outcome (inf s) (inf t) p q z = absurd (unfold is_finite in p)
arctangent_number_outcome {Q} (fin s m e) (inf t) p q z =
    subst (Outcome (Angle (Between (neg PI) PI)) Q)
    (sym (arctangent_answered (fin s m e) (inf t) (second_not_zero (fin s m e) (inf t) z)))
    (outcome_answered (arctangent_of (fin s m e) (inf t)) (at_infinity s t m e))

level_at_infinity : (s : Bool) (m : ℕ) (e : ℤ) → size (arctangent_of (fin s m e) (inf false)).0 ≼ HALF
unfolding arctangent_of bears_minus size neg le div mul add of_bits round
level_at_infinity true m e = tt
level_at_infinity false m e = tt

-- a quarter turn at most, where the second number bears no minus sign
pub arctangent_number_at_most_half : (y x : Float) → Finite y → (x ≡ nan → ⊥) → bears_minus x ≡ false → (v : Rad)
    → arctangent_in y x ≡ answered v → size v.0 ≼ HALF
unfolding bears_minus
arctangent_number_at_most_half y nan p q h v e = absurd (q refl)
arctangent_number_at_most_half y (fin t m c) p q h v e = arctangent_in_at_most_half y (fin t m c) v e p (unfold is_finite in tt) h
arctangent_number_at_most_half nan (inf t) p q h v e = absurd (unfold is_finite in p)
arctangent_number_at_most_half (inf s) (inf t) p q h v e = absurd (unfold is_finite in p)
arctangent_number_at_most_half (fin s m c) (inf t) p q h v e =
    let z : T (not (both_zero (fin s m c) (inf t))) = second_not_zero (fin s m c) (inf t) (unfold eq of_bits in tt) in
    subst (λ (w : Rad). size w.0 ≼ HALF) (same_value (sym (arctangent_answered (fin s m c) (inf t) z) ∙ e))
    (subst (λ (u : Bool). size (arctangent_of (fin s m c) (inf u)).0 ≼ HALF) (sym h) (level_at_infinity s m c))

-- ---- arcsine

module _ {Q : ℕ → Type 0} (seven : Q 7) where
  -- a quarter turn at most, or 7
  pub arcsine_outcome : (s : Float) → Finite s → Outcome (Angle (Between (neg HALF) HALF)) Q (arcsine_in s)
  arcsine_outcome s p =
      record {
        answers = λ v e. size→between HALF v.0 (unfold is_finite of_bits in tt) (arcsine_at_most_half s p v e);
        refuses = λ n e. subst Q (sym (arcsine_refuses_seven s p n e).0) seven;
      }

  -- of an infinity 7
  pub arcsine_number_outcome : (s : Float) → (s ≡ nan → ⊥) → Outcome (Angle (Between (neg HALF) HALF)) Q (arcsine_in s)
  arcsine_number_outcome nan p = absurd (p refl)
  arcsine_number_outcome (inf t) p = unfold arcsine_in lt size of_bits in outcome_refused 7 seven
  arcsine_number_outcome (fin t m e) p = arcsine_outcome (fin t m e) (unfold is_finite in tt)

-- ---- a quotient by what is not zero is no NaN

plus_not_nan : (x : Float) → Plus x → x ≡ nan → ⊥
plus_not_nan x p e = subst Plus e p

round_not_nan : (f : Format) (s : Bool) (a c : ℕ) → round f s a c ≡ nan → ⊥
unfolding neg
round_not_nan f false a c e = plus_not_nan (round f false a c) (round_plus f a c) e
round_not_nan f true a c e =
    plus_not_nan (round f false a c) (round_plus f a c)
    (sym (neg_neg (round f false a c)) ∙ ap neg (sym (round_neg f false a c) ∙ e))

zero_is_zero : (t : Bool) (d : ℤ) → T (is_zero (fin t 0 d))
unfolding eq of_bits
zero_is_zero true d = simp (zero-mul) tt
zero_is_zero false d = simp (zero-mul) tt

pub quotient_not_nan : (x y : Float) → Finite x → Finite y → NonZero y → x ⊘ y ≡ nan → ⊥
unfolding is_finite eq of_bits div
quotient_not_nan nan y p q z e = absurd p
quotient_not_nan (inf s) y p q z e = absurd p
quotient_not_nan (fin s m c) nan p q z e = absurd q
quotient_not_nan (fin s m c) (inf t) p q z e = absurd q
quotient_not_nan (fin s m c) (fin t n d) p q z e = by_case (eqb n 0) refl e
  where
    by_case : (b : Bool) → eqb n 0 ≡ b
        → cond b (cond (eqb m 0) nan (inf (unlike s t))) (round binary64 (unlike s t) (m * up c * down d) (n * up d * down c)) ≡ nan
        → ⊥
    by_case true k e = T_not (is_zero (fin t n d)) z (rw (eqb→eq n 0 (holds k)) (zero_is_zero t d))
    by_case false k e = round_not_nan binary64 (unlike s t) (m * up c * down d) (n * up d * down c) e

-- and bears no minus sign where both bear the same
pub quotient_no_minus : (x y : Float) → Finite x → Finite y → bears_minus x ≡ bears_minus y → bears_minus (x ⊘ y) ≡ false
unfolding is_finite bears_minus div
quotient_no_minus nan y p q same = absurd p
quotient_no_minus (inf s) y p q same = absurd p
quotient_no_minus (fin s m c) nan p q same = absurd q
quotient_no_minus (fin s m c) (inf t) p q same = absurd q
quotient_no_minus (fin s m c) (fin t n d) p q same = rw (alike s t same) (by_case (eqb n 0) (eqb m 0))
  where
    alike : (s t : Bool) → s ≡ t → unlike s t ≡ false
    alike true true e = refl
    alike true false e = e
    alike false true e = sym e
    alike false false e = refl

    by_case : (a b : Bool)
        → bears_minus (cond a (cond b nan (inf false)) (round binary64 false (m * up c * down d) (n * up d * down c))) ≡ false
    by_case true true = refl
    by_case true false = refl
    by_case false b =
        no_minus_of_plus (round binary64 false (m * up c * down d) (n * up d * down c)) (round_plus binary64 (m * up c * down d) (n * up d * down c))

-- nor is it zero, of what is not zero by a number of size 1 at most
pub quotient_not_zero : (x y : Float) → T (fits binary64 x) → Finite x → NonZero x → NonZero y → size y ≼ one → NonZero (x ⊘ y)
unfolding is_finite of_bits div size fits
quotient_not_zero nan y F p X Y h = absurd p
quotient_not_zero (inf s) y F p X Y h = absurd p
quotient_not_zero (fin s m e) nan F p X Y h = absurd (unfold le in h)
quotient_not_zero (fin s m e) (inf t) F p X Y h = absurd (unfold le in h)
quotient_not_zero (fin s ℕ.zero e) (fin t n d) F p X Y h = absurd (T_not (is_zero (fin s 0 e)) X (zero_is_zero s e))
quotient_not_zero (fin s (suc m) e) (fin t ℕ.zero d) F p X Y h = absurd (T_not (is_zero (fin t 0 d)) Y (zero_is_zero t d))
quotient_not_zero (fin s (suc m) e) (fin t (suc n) d) F p X Y h = rw (eqb-suc-zero n) (by_sign (unlike s t))
  where
    flat : (a c : ℕ) → a * 1 + 0 * c ≤ 1 * c + 0 * 1 → a ≤ c
    flat a c h = omega arith

    wider : (a b c d : ℕ) → b ≤ c → a * (b * d) ≤ a * c * d
    wider a b c d h = omega (arith, mul-le-mul_right (a * d) h)

    most : suc n * up d ≤ down d
    most = flat (suc n * up d) (down d) (le→below (fin false (suc n) d) one tt tt h)

    plain : NonZero (round binary64 false (suc m * up e * down d) (suc n * up d * down e))
    plain =
        nonzero_of_positive (fin false (suc m) e) (round binary64 false (suc m * up e * down d) (suc n * up d * down e)) (lt→ltb 0 (suc m) (zero-lt-suc m))
        (subst (λ (z : Float). z ≼ round binary64 false (suc m * up e * down d) (suc n * up d * down e)) (round_own binary64 false (suc m) e F)
        (round_mono binary64 (suc m * up e) (down e) (suc m * up e * down d) (suc n * up d * down e) (down_pos e)
        (mul-pos (mul-pos (zero-lt-suc n) (up_pos d)) (down_pos e)) (wider (suc m * up e) (suc n * up d) (down d) (down e) most)))

    by_sign : (u : Bool) → NonZero (round binary64 u (suc m * up e * down d) (suc n * up d * down e))
    by_sign false = plain
    by_sign true =
        let z = round binary64 false (suc m * up e * down d) (suc n * up d * down e) in
        rw (round_neg binary64 false (suc m * up e * down d) (suc n * up d * down e), zero_neg z) plain

-- ---- the root of a sum of two squares

-- +0, of either zero
pub square_of_zero : (x : Float) → T (is_zero x) → x ⊗ x ≡ zero
unfolding eq of_bits mul
square_of_zero nan z = absurd z
square_of_zero (inf s) z = absurd z
square_of_zero (fin s m e) z = by_sign s (flat (m * up e) (down e) (eqb→eq (m * up e * 1) (0 * down e) (and_l (eqb (m * up e * 1) (0 * down e)) _ z)))
  where
    flat : (a d : ℕ) → a * 1 ≡ 0 * d → a ≡ 0
    flat a d h = omega arith

    squared : m * up e ≡ 0 → round binary64 false (m * up e * (m * up e)) (down e * down e) ≡ zero
    squared h = unfold of_bits in
        ap (λ (a : ℕ). round binary64 false (a * a) (down e * down e)) h ∙ round_zero binary64 false (down e * down e)

    by_sign : (s : Bool) → m * up e ≡ 0 → round binary64 (unlike s s) (m * up e * (m * up e)) (down e * down e) ≡ zero
    by_sign true h = squared h
    by_sign false h = squared h

square_plus : (x : Float) → Finite x → Plus (x ⊗ x)
unfolding is_finite mul
square_plus nan p = absurd p
square_plus (inf s) p = absurd p
square_plus (fin true m e) p = round_plus binary64 (m * up e * (m * up e)) (down e * down e)
square_plus (fin false m e) p = round_plus binary64 (m * up e * (m * up e)) (down e * down e)

pub root_outcome : {Q : ℕ → Type 0} (a b : Float) → Finite a → Finite b → Finite (a ⊗ a) → Finite (b ⊗ b)
    → Finite (a ⊗ a ⊕ b ⊗ b) → Outcome Finite Q (root_rule (a ⊗ a ⊕ b ⊗ b))
root_outcome {Q} a b p q p2 q2 r =
    let x = a ⊗ a ⊕ b ⊗ b in
    let P : Plus x = add_plus binary64 (a ⊗ a) (b ⊗ b) p2 q2 (square_plus a p) (minus_le_plus (a ⊗ a) (b ⊗ b) (square_plus a p) (square_plus b q)) in
    let z : IsFromZero x = record { held = add-fits binary64 (a ⊗ a) (b ⊗ b); finite = is_true (is_finite x) r; plus = no_minus_of_plus x P } in
    subst (Outcome Finite Q) (sym (root_answered x z.finite z.plus))
    (outcome_answered (root_of x) (holds (root_from_zero x z).finite))
