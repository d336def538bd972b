-- An angle above zero and below a turn is folded to itself.
use Rattle.std.specs.Prelude.{ℕ, ◌*◌, ◌^◌, ◌<◌, ◌≡◌, refl, true, T, ℤ, Float}
use Rattle.std.proofs.Math.Path.{sym}
use Rattle.std.proofs.Common.{ap, ◌∙◌, mul_right_comm, mul_assoc, mul_comm, mul-lt-mul_of_pos_right, lt_of_mul-lt-mul_right, mod-eq_of_lt, arith, ltb→lt, pow_pos}
use Rattle.std.proofs.Math.Bool.{false}
use Rattle.std.proofs.Math.Dec.{lit≤}
use Rattle.std.specs.Float.{nan, inf, fin, binary64}
use Rattle.std.specs.Float.Ieee.{up, down, lt, fits, of_bits}
use Rattle.std.specs.Float.Ieee.Positive.{den}
use borrow.Author.Tests.{le-ltb}
use Rattle.double.specs.rules.Operations.{zero}
use Rattle.double.specs.rules.Sign.{is_finite, bears_minus}
use Rattle.double.specs.rules.Count.{count}
use Rattle.double.specs.laws.Count.{count_exact}
use Rattle.remainder.specs.rules.Remainder.{remainder_of}
use Rattle.remainder.specs.laws.Remainder.{remainder_is_only}
use Rattle.quantity.specs.rules.Angle.{rad}
use Rattle.helpers.specs.rules.Angle.{limited, turn_in_radians, within_two_PI}

-- the order of two fractions, as counts of one unit
counts_order : (a b e d p v w : ℕ) → 0 < p → a * p ≡ v * e → b * p ≡ w * d → a * d < b * e → v * (e * d) < w * (e * d)
counts_order a b e d p v w s x y h =
    let g : a * d * p < b * e * p = mul-lt-mul_of_pos_right h s in
    regroup (a * d * p) (b * e * p) (v * (e * d)) (w * (e * d)) (left a d p v e x) (right b e p w d y) g
  where
    left : (a d p v e : ℕ) → a * p ≡ v * e → a * d * p ≡ v * (e * d)
    left a d p v e x = mul_right_comm a d p ∙ ap (λ (k : ℕ). k * d) x ∙ mul_assoc v e d

    right : (b e p w d : ℕ) → b * p ≡ w * d → b * e * p ≡ w * (e * d)
    right b e p w d y = mul_right_comm b e p ∙ ap (λ (k : ℕ). k * e) y ∙ mul_assoc w d e ∙ ap (λ (k : ℕ). w * k) (mul_comm d e)

    regroup : (k l m n : ℕ) → k ≡ m → l ≡ n → k < l → m < n
    regroup k l m n x y h = omega arith

-- below a turn, for the digits and the exponent of a double above zero
smaller : (m : ℕ) (e : ℤ) → T (fits binary64 (fin false m e)) → T (lt (fin false m e) turn_in_radians)
    → count (fin false m e) < count turn_in_radians
unfolding lt of_bits is_finite fits
smaller m e F h =
    let x = fin false m e in
    let X = count_exact x F refl in
    let Y = count_exact turn_in_radians tt refl in
    lt_of_mul-lt-mul_right (down e * den turn_in_radians) (counts_order _ _ (down e) _ (2 ^ 1074) _ _ (pow_pos 1074) X.1 Y.1 (ltb→lt _ _ h))

pub folded_to_itself : (x : Float) → T (fits binary64 x) → T (lt zero x) → T (lt x turn_in_radians) → rad x ≡ within_two_PI (rad x)
unfolding limited lt of_bits is_finite fits bears_minus
folded_to_itself nan F a b = absurd a
folded_to_itself (inf true) F a b = absurd a
folded_to_itself (inf false) F a b = absurd b
folded_to_itself (fin true m e) F a b = absurd a
folded_to_itself (fin false m e) F a b =
    let x = fin false m e in
    let itself : x ≡ remainder_of x turn_in_radians =
    remainder_is_only x turn_in_radians x F tt refl refl (unfold count in lit≤ tt)
    (record { held = F; finite = refl; sign = refl; rest = sym (mod-eq_of_lt (smaller m e F b)) }) in
    let above : lt x zero ≡ false = le-ltb (m * up e * 1) (0 * down e) (omega arith) in
    rw (← itself, above)
