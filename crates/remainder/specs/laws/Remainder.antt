-- The remainder is exact: it bears the first number's sign and counts what is left over whole numbers, and nothing else is it.
use Rattle.std.specs.Prelude.{◌≡◌, refl, Bool, true, false, ℕ, ◌*◌, ◌%◌, ◌^◌, ◌<◌, T, ℤ, Float}
use Rattle.std.proofs.Common.{sym, ap, ◌∙◌, true≢false, mul-pos, mul_assoc, mul_right_comm, arith, pow_pos, ne_eqb}
use Rattle.std.specs.Float.{nan, inf, fin, Format, binary64}
use Rattle.std.specs.Float.Ieee.{fits, up, down, round, neg, rem}
use Rattle.std.specs.Float.Ieee.Exact.{HasValue}
use Rattle.std.specs.Float.Ieee.Fits.{down_pos}
use Rattle.std.specs.Float.Ieee.Positive.{first_pos}
use Rattle.std.specs.Float.Ieee.Scale.{round_same}
use Rattle.double.specs.rules.Sign.{bears_minus, negated_if, is_finite}
use Rattle.double.specs.rules.Count.{IsFromZero, count}
use Rattle.double.specs.laws.Exact.{round_value}
use Rattle.double.specs.laws.Count.{count_exact}
use Rattle.remainder.specs.rules.Remainder.{remainder_of, IsRemainder}
use Rattle.remainder.specs.laws.Whole.{rest_scaled}

-- ---- the remainder of v / L by w / L is what is left of v by w, over L

rem_value : (f : Format) (s t : Bool) (m n : ℕ) (e d : ℤ) (v w L : ℕ) → 0 < L → 0 < w → m * up e * L ≡ v * down e → n * up d * L ≡ w * down d
    → rem f (fin s m e) (fin t n d) ≡ round f s (v % w) L
unfolding rem
rem_value f s t m n e d v w L p q x y =
    rw (ne_eqb n 0 some) (round_same f s (A % B) D (v % w) L over p (sym (rest_scaled A B L below p) ∙ rw (a, b) (rest_scaled v w D q over)))
  where
    A : ℕ
    A = m * up e * down d

    B : ℕ
    B = n * up d * down e

    D : ℕ
    D = down e * down d

    over : 0 < down e * down d
    over = mul-pos (down_pos e) (down_pos d)

    above : 0 < n * up d
    above = first_pos (n * up d) L (rw y (mul-pos q (down_pos d)))

    some : n ≡ 0 → ⊥
    some z = no (first_pos n (up d) above)
      where
        no : 0 < n → ⊥
        no h = omega arith

    below : 0 < n * up d * down e
    below = mul-pos above (down_pos e)

    a : m * up e * down d * L ≡ v * (down e * down d)
    a = mul_right_comm (m * up e) (down d) L ∙ ap (λ (z : ℕ). z * down d) x ∙ mul_assoc v (down e) (down d)

    b : n * up d * down e * L ≡ w * (down e * down d)
    b = mul_right_comm (n * up d) (down e) L ∙ ap (λ (z : ℕ). z * down e) y ∙ mul_right_comm w (down d) (down e) ∙ mul_assoc w (down e) (down d)

-- ---- the remainder is exact

-- what is the remainder over whole numbers is the remainder
pub remainder_is_only : (x y r : Float) → T (fits binary64 x) → T (fits binary64 y) → is_finite x ≡ true → is_finite y ≡ true → 0 < count y
    → IsRemainder x y r → r ≡ remainder_of x y
unfolding is_finite
remainder_is_only nan y r F G p q c i = absurd (true≢false (sym p))
remainder_is_only (inf s) y r F G p q c i = absurd (true≢false (sym p))
remainder_is_only (fin s m e) nan r F G p q c i = absurd (true≢false (sym q))
remainder_is_only (fin s m e) (inf t) r F G p q c i = absurd (true≢false (sym q))
remainder_is_only (fin s m e) (fin t n d) r F G p q c i =
    let v = count (fin s m e) in
    let w = count (fin t n d) in
    let X = count_exact (fin s m e) F p in
    let h : HasValue r s (v % w) (2 ^ 1074) = rw (← i.rest, X.0, ← i.sign) (count_exact r i.held i.finite) in
    sym (round_value r s (v % w) (2 ^ 1074) (pow_pos 1074) i.held h)
    ∙ sym (rem_value binary64 s t m n e d v w (2 ^ 1074) (pow_pos 1074) c X.1 (count_exact (fin t n d) G q).1)

-- a double with x's sign and what is left is it
pub signed_remainder : (x y v : Float) → IsFromZero v → count v ≡ count x % count y → IsRemainder x y (negated_if (bears_minus x) v)
unfolding is_finite bears_minus count neg fits
signed_remainder x y v d h = go (bears_minus x) refl v d h
  where
    go : (s : Bool) → bears_minus x ≡ s → (v : Float) → IsFromZero v → count v ≡ count x % count y → IsRemainder x y (negated_if s v)
    go s e nan d h = absurd (true≢false (sym d.finite))
    go s e (inf t) d h = absurd (true≢false (sym d.finite))
    go s e (fin true m k) d h = absurd (true≢false d.plus)
    go true e (fin false m k) d h = record { held = d.held; finite = refl; sign = sym e; rest = h }
    go false e (fin false m k) d h = record { held = d.held; finite = refl; sign = sym e; rest = h }
