-- The arctangent of two finite numbers, not both zero: it bears the first one's sign, and its size is at most a quarter turn where
-- the second bears no minus sign, and at least one where it does. Of two zeros it is refused by 14, and of nothing else.
use Rattle.std.specs.Prelude.{◌≡◌, refl, ◌⊎◌, ℕ, ◌+◌, ◌*◌, ◌≤◌, ◌<◌, Bool, not, ◌&&◌, eqb, ltb, ℤ, Float}
use Rattle.std.proofs.Math.Path.{sym}
use Rattle.std.proofs.Common.{ap, ◌∙◌, inl, inr, mul-pos, eq-zero-or-pos, not-le_of_lt, arith, nltb→le, T_not}
use Rattle.std.proofs.Math.Bool.{true, false, cond}
use Rattle.std.proofs.Math.Dec.{T}
use Rattle.std.specs.Float.{nan, inf, fin}
use Rattle.std.specs.Float.Ieee.{binary64, up, down, round, neg, add, sub, mul, div, eq, le, fits, of_bits}
use Rattle.std.specs.Float.Ieee.Fits.{and_i, eq→eqb, up_pos, down_pos, mul-fits, div-fits}
use Rattle.std.specs.Float.Ieee.Bits.{is_true, is_false}
use Rattle.std.specs.Float.Ieee.Positive.{positive}
use Rattle.double.specs.rules.Operations.{zero, half, one, ◌⊕◌, ◌⊖◌, ◌⊗◌, ◌⊘◌}
use Rattle.double.specs.rules.Sign.{bears_minus, negated_if, size, is_finite}
use Rattle.double.specs.rules.Order.{◌≼◌, is_zero, Finite, Plus, Between}
use Rattle.double.specs.rules.Table.{over}
use Rattle.double.specs.notions.Range.{Expr, known, con, ◌⊞◌, ◌⊟◌, ◌⊠◌, ◌⧄◌, horner_expr}
use Rattle.double.specs.laws.Tests.{by_test}
use Rattle.double.specs.laws.Sign.{finite_size, plus_size, size_plus, size_neg, size_negated, size_size, minus_negated}
use Rattle.double.specs.laws.Zero.{zero_size}
use Rattle.double.specs.laws.Mirror.{sub_nan}
use Rattle.double.specs.laws.Order.{le→below, le_trans, le_of_not_le, neg_le}
use Rattle.double.specs.laws.Between.{between, zero_le_plus, finite_of_plus, plus_of_positive}
use Rattle.double.specs.laws.Interval.{bounded}
use Rattle.double.specs.laws.NearZero.{mul_shrinks, mul_plus, add_plus, sub_plus, div_plus, div_le_one}
use Rattle.quantity.specs.rules.Angle.{rad, PI, HALF, QUARTER}
use Rattle.quantity.specs.declared.Rad.{Rad}
use Rattle.quantity.specs.rules.Answer.{answered, refused}
use Rattle.quantity.specs.laws.Steps.{refused_not_answered, same_value, same_number}
use Rattle.elementary.specs.rules.Series.{horner}
use Rattle.elementary_arc.specs.rules.Series.{arctangent_last, arctangent_entries, arctangent_series}
use Rattle.elementary_arc.specs.rules.Arctangent.{near, atn, base, supplement_if, arctangent_of, both_zero, arctangent_in}
use Rattle.elementary_arc.specs.laws.Mirror.{base_nan}
use Rattle.elementary_arc.specs.notions.UpToHalf.{UpToHalf}

-- ---- the series

-- a little more than 0.4142, and than (1 − 0.4142) / (1 + 0.4142)
abbrev reach : Float
reach = over 1697 4096

abbrev sum_expr : Expr → Expr
sum_expr w = horner_expr w (con arctangent_last) arctangent_entries

sum_small : (u : Float) → Between (neg reach) reach u → Between (neg half) half (horner (u ⊗ u) arctangent_last arctangent_entries)
unfolding is_finite le neg add mul of_bits round
sum_small u i = bounded binary64 (neg half) half (sum_expr (known i ⊠ known i)) tt

series_small : (u : Float) → Between (neg reach) reach u → Between (neg half) half (arctangent_series u)
unfolding is_finite le neg add mul of_bits round
series_small u i =
    let w = known i ⊠ known i in
    bounded binary64 (neg half) half (known i ⊞ (known i ⊠ w) ⊠ sum_expr w) tt

-- from 0 to 0.4142 the series bears no minus sign: its second term is smaller than v
series_plus : (v : Float) → T (fits binary64 v) → Plus v → Between zero near v → Plus (arctangent_series v)
unfolding is_finite le neg add mul of_bits round
series_plus v F P i =
    let w = v ⊗ v in
    let q = v ⊗ w in
    let p = horner w arctangent_last arctangent_entries in
    let iw : Between (neg one) one w = bounded binary64 (neg one) one (known i ⊠ known i) tt in
    let wide : Between (neg reach) reach v = bounded binary64 (neg reach) reach (known i) tt in
    let ip : Between (neg one) one p = bounded binary64 (neg one) one (known (sum_small v wide)) tt in
    let iq : Between (neg v) v q = mul_shrinks binary64 v w F i.finite P iw in
    let Q : Plus q = mul_plus binary64 v w i.finite iw.finite P (mul_plus binary64 v v i.finite i.finite P P) in
    let it : Between (neg q) q (q ⊗ p) = mul_shrinks binary64 q p (mul-fits binary64 v w) iq.finite Q ip in
    add_plus binary64 v (q ⊗ p) i.finite it.finite P (le_trans (neg v) (neg q) (q ⊗ p) (neg_le q v iq.to) it.from)

-- ---- Atn of a number from 0 to 1, and base, lie from 0 to HALF and bear no minus sign

atn_near : (v : Float) → T (fits binary64 v) → Plus v → Between zero near v → UpToHalf (arctangent_series v)
unfolding is_finite le neg of_bits round
atn_near v F P i =
    let P' = series_plus v F P i in
    let s = series_small v (bounded binary64 (neg reach) reach (known i) tt) in
    record { plus = P'; place = between tt tt (zero_le_plus (arctangent_series v) s.finite P') (le_trans (arctangent_series v) half HALF s.to tt) }

atn_far : (v : Float) → Between near one v → UpToHalf (QUARTER ⊕ arctangent_series ((v ⊖ one) ⊘ (v ⊕ one)))
unfolding is_finite le neg add sub mul div of_bits round
atn_far v i =
    let u = (v ⊖ one) ⊘ (v ⊕ one) in
    let iu : Between (neg reach) reach u = bounded binary64 (neg reach) reach ((known i ⊟ con one) ⧄ (known i ⊞ con one)) tt in
    let r = QUARTER ⊕ arctangent_series u in
    let ir : Between (over 1 4) HALF r = bounded binary64 (over 1 4) HALF (con QUARTER ⊞ known (series_small u iu)) tt in
    record { plus = plus_of_positive (over 1 4) r tt ir.from; place = bounded binary64 zero HALF (known ir) tt }

atn_up_to_half : (v : Float) → T (fits binary64 v) → Plus v → Between zero one v → UpToHalf (atn v)
unfolding is_finite of_bits
atn_up_to_half v F P i =
    by_test UpToHalf (le v near) (arctangent_series v) (QUARTER ⊕ arctangent_series ((v ⊖ one) ⊘ (v ⊕ one)))
    (λ h. atn_near v F P (between i.start tt i.from h))
    (λ h. atn_far v (between tt i.end (le_of_not_le v near i.finite tt h) i.to))

-- of the quotient of two sizes, of which the first is no larger
ratio_up_to_half : (y x : Float) → Finite y → Plus y → T (positive x) → y ≼ x → UpToHalf (atn (y ⊘ x))
unfolding is_finite of_bits
ratio_up_to_half y x p q r h =
    let v = y ⊘ x in
    let P = div_plus binary64 y x p q r in
    let most : v ≼ one = div_le_one binary64 y x p q r h in
    atn_up_to_half v (div-fits binary64 y x) P (between tt tt (zero_le_plus v (finite_of_plus v one P tt most) P) most)

-- of two sizes, not both zero, the larger is above zero
zero_of : (m : ℕ) (e : ℤ) → m ≡ 0 → T (is_zero (fin false m e))
unfolding eq of_bits
zero_of m e z = and_i (eqb (m * up e * 1) (0 * down e)) true (eq→eqb {a = m * up e * 1} {b = 0 * down e} (rw z (omega arith))) tt

factor : (a b : ℕ) → 0 < b → a * b ≤ 0 → a ≡ 0
factor a b B h = elim (eq-zero-or-pos a) [ inl z ↦ z | inr p ↦ absurd (not-le_of_lt (mul-pos p B) h) ]

larger_positive : (y x : Float) → Finite y → Plus y → Finite x → Plus x → y ≼ x → T (not (both_zero y x)) → T (positive x)
unfolding is_finite
larger_positive nan x p q r s h k = absurd p
larger_positive (inf t) x p q r s h k = absurd p
larger_positive (fin true m e) x p q r s h k = absurd q
larger_positive (fin false m e) nan p q r s h k = absurd r
larger_positive (fin false m e) (inf t) p q r s h k = absurd r
larger_positive (fin false m e) (fin true n d) p q r s h k = absurd s
larger_positive (fin false m e) (fin false n d) p q r s h k = by_case (ltb 0 n) (nltb→le 0 n)
  where
    none_left : (a b x y : ℕ) → b ≡ 0 → a * x + 0 * y ≤ b * y + 0 * x → a * x ≤ 0
    none_left a b x y z h = omega (arith, ap (λ (k : ℕ). k * y) z)

    by_case : (b : Bool) → (T (not b) → n ≤ 0) → T b
    by_case true z = tt
    by_case false z =
        let z' = z tt in
        let N : n ≡ 0 = omega arith in
        let B : n * up d ≡ 0 = rw N (omega arith) in
        let M : m * up e * down d ≤ 0 = none_left (m * up e) (n * up d) (down d) (down e) B (le→below (fin false m e) (fin false n d) tt tt h) in
        let A : m * up e ≡ 0 = factor (m * up e) (down d) (down_pos d) M in
        let Z : m ≡ 0 = factor m (up e) (up_pos e) (omega arith) in
        absurd
        (T_not (both_zero (fin false m e) (fin false n d)) k (and_i (is_zero (fin false m e)) (is_zero (fin false n d)) (zero_of m e Z) (zero_of n d N)))

swapped : (a b : Bool) → T (not (a && b)) → T (not (b && a))
swapped true true t = t
swapped true false t = tt
swapped false true t = tt
swapped false false t = tt

base_up_to_half : (y x : Float) → Finite y → Plus y → Finite x → Plus x → T (not (both_zero y x)) → UpToHalf (base y x)
base_up_to_half y x p q r s n =
    by_test UpToHalf (le y x) (atn (y ⊘ x)) (HALF ⊖ atn (x ⊘ y))
    (λ h. ratio_up_to_half y x p q (larger_positive y x p q r s h n) h)
    (λ h.
    let l = le_of_not_le y x p r h in
    past-half (atn (x ⊘ y)) (ratio_up_to_half x y r s (larger_positive x y r s p q l (swapped (is_zero y) (is_zero x) n)) l))
  where
    past-half : (a : Float) → UpToHalf a → UpToHalf (HALF ⊖ a)
    past-half a i =
        unfold is_finite le neg add sub of_bits in
        record { plus = sub_plus binary64 HALF a tt i.place.finite tt i.place.to; place = bounded binary64 zero HALF (con HALF ⊟ known i.place) tt }

-- ---- the arctangent of two finite numbers, not both zero

-- base of their sizes
base_of : (y x : Float) → Finite y → Finite x → T (not (both_zero y x)) → UpToHalf (base (size y) (size x))
base_of y x p q n =
    base_up_to_half (size y) (size x) (rw (finite_size y) p) (plus_size y p) (rw (finite_size x) q) (plus_size x q)
    (rw (zero_size y, zero_size x) n)

behind : (b : Float) → UpToHalf b → Between HALF PI (PI ⊖ b)
unfolding is_finite le neg add sub of_bits
behind b i = bounded binary64 HALF PI (con PI ⊟ known i.place) tt

supplement_plus : (s : Bool) (b : Float) → UpToHalf b → Plus (supplement_if s b)
supplement_plus true b i = plus_of_positive HALF (PI ⊖ b) (unfold of_bits in tt) (behind b i).from
supplement_plus false b i = i.plus

module _ (y x : Float) (p : Finite y) (q : Finite x) (n : T (not (both_zero y x))) where
  supplement_size : size (supplement_if (bears_minus x) (base (size y) (size x))) ≡ supplement_if (bears_minus x) (base (size y) (size x))
  supplement_size =
      size_plus (supplement_if (bears_minus x) (base (size y) (size x)))
      (supplement_plus (bears_minus x) (base (size y) (size x)) (base_of y x p q n))

  -- its size is base, or its supplement where x bears a minus sign
  pub arctangent_size : size (arctangent_of y x).0 ≡ supplement_if (bears_minus x) (base (size y) (size x))
  unfolding arctangent_of
  arctangent_size = rw (supplement_size) (size_negated (bears_minus y) (supplement_if (bears_minus x) (base (size y) (size x))) ∙ supplement_size)

  -- it bears y's sign
  pub arctangent_sign : bears_minus (arctangent_of y x).0 ≡ bears_minus y
  unfolding arctangent_of
  arctangent_sign =
      rw (supplement_size)
      (minus_negated (bears_minus y) (supplement_if (bears_minus x) (base (size y) (size x))) (supplement_plus (bears_minus x) (base (size y) (size x)) (base_of y x p q n)))

  -- base with y's sign, where x bears no minus sign
  pub arctangent_ahead : bears_minus x ≡ false → size x ≡ x → arctangent_of y x ≡ rad (negated_if (bears_minus y) (base (size y) x))
  unfolding arctangent_of
  arctangent_ahead h same = rw (supplement_size, h, same)

  pub arctangent_finite : Finite (arctangent_of y x).0
  arctangent_finite = rw (← finite_size (arctangent_of y x).0, arctangent_size) (by_sign (bears_minus x))
    where
      by_sign : (s : Bool) → Finite (supplement_if s (base (size y) (size x)))
      by_sign true = (behind (base (size y) (size x)) (base_of y x p q n)).finite
      by_sign false = (base_of y x p q n).place.finite

  -- a quarter turn at most, where x bears no minus sign
  pub arctangent_at_most_half : bears_minus x ≡ false → size (arctangent_of y x).0 ≼ HALF
  arctangent_at_most_half h = rw (arctangent_size, h) (base_of y x p q n).place.to

  -- a quarter turn at least, where x bears one
  pub arctangent_at_least_half : bears_minus x ≡ true → HALF ≼ size (arctangent_of y x).0
  arctangent_at_least_half h = rw (arctangent_size, h) (behind (base (size y) (size x)) (base_of y x p q n)).from

  -- and half a turn at most in any case
  pub arctangent_at_most_pi : size (arctangent_of y x).0 ≼ PI
  arctangent_at_most_pi = rw arctangent_size (by_sign (bears_minus x))
    where
      by_sign : (s : Bool) → supplement_if s (base (size y) (size x)) ≼ PI
      by_sign true = (behind (base (size y) (size x)) (base_of y x p q n)).to
      by_sign false = le_trans (base (size y) (size x)) HALF PI (base_of y x p q n).place.to (unfold le of_bits in tt)

-- ---- the second argument negated, on every double

base_nan_r : (y : Float) → base (size y) nan ≡ nan
unfolding size le neg add sub mul div of_bits
base_nan_r nan = base_nan nan
base_nan_r (inf s) = refl
base_nan_r (fin s m e) = refl

-- base is a NaN or lies from 0 to HALF
base_cases : (y x : Float) → T (not (both_zero y x)) → (base (size y) (size x) ≡ nan) ⊎ UpToHalf (base (size y) (size x))
unfolding size is_finite le neg add sub mul div of_bits
base_cases nan x k = inl (base_nan (size x))
base_cases (inf s) nan k = inl refl
base_cases (inf s) (inf t) k = inl refl
base_cases (inf s) (fin t n d) k = inr (record { plus = tt; place = between tt tt tt tt })
base_cases (fin s m e) nan k = inl (base_nan_r (fin s m e))
base_cases (fin s m e) (inf t) k = inr (record { plus = tt; place = between tt tt tt tt })
base_cases (fin s m e) (fin t n d) k = inr (base_of (fin s m e) (fin t n d) tt tt k)

supplement_less : (b : Float) → (b ≡ nan) ⊎ UpToHalf b → size (PI ⊖ b) ≡ PI ⊖ size b
supplement_less b (inl e) = rw (e, sub_nan binary64 PI) (unfold size in sym (sub_nan binary64 PI))
supplement_less b (inr i) = size_plus (PI ⊖ b) (supplement_plus true b i) ∙ ap (λ (z : Float). PI ⊖ z) (sym (size_plus b i.plus))

size_supplement : (y x : Float) → size (arctangent_of y x).0 ≡ size (supplement_if (bears_minus x) (base (size y) (size x)))
unfolding arctangent_of
size_supplement y x =
    let t = supplement_if (bears_minus x) (base (size y) (size x)) in
    size_negated (bears_minus y) (size t) ∙ size_size t

size_nan : (y : Float) → size (arctangent_of y nan).0 ≡ nan
unfolding size bears_minus
size_nan y = size_supplement y nan ∙ ap size (base_nan_r y)

opposite_signs : (y x : Float) → T (not (both_zero y x)) → bears_minus x ≡ false → bears_minus (neg x) ≡ true
    → size (arctangent_of y (neg x)).0 ≡ PI ⊖ size (arctangent_of y x).0
opposite_signs y x n h k =
    rw (size_supplement y (neg x), size_supplement y x, size_neg x, h, k) (supplement_less (base (size y) (size x)) (base_cases y x n))

-- where x bears no minus sign, the size at −x is PI less the size at x, rounded once
pub arctangent_behind : (y x : Float) → T (not (both_zero y x)) → bears_minus x ≡ false
    → size (arctangent_of y (neg x)).0 ≡ PI ⊖ size (arctangent_of y x).0
unfolding neg bears_minus
arctangent_behind y nan n h = rw (size_nan y) (sym (sub_nan binary64 PI))
arctangent_behind y (inf s) n h = opposite_signs y (inf s) n h (rw h)
arctangent_behind y (fin s m e) n h = opposite_signs y (fin s m e) n h (rw h)

-- ---- the same of what callers bind

-- 14 is the only refusal, and is given only of two zeros
pub arctangent_refuses_fourteen : (y x : Float) (n : ℕ) → arctangent_in y x ≡ refused n → (n ≡ 14) × T (both_zero y x)
unfolding arctangent_in
arctangent_refuses_fourteen y x n e = by_case (both_zero y x) e
  where
    by_case : (b : Bool) → cond b (refused 14) (answered (arctangent_of y x)) ≡ refused n → (n ≡ 14) × T b
    by_case true e = (sym (same_number e), tt)
    by_case false e = absurd (refused_not_answered (sym e))

pub arctangent_of_zeros : (y x : Float) → T (both_zero y x) → arctangent_in y x ≡ refused 14
unfolding arctangent_in
arctangent_of_zeros y x z = rw (is_true (both_zero y x) z)

pub arctangent_answered : (y x : Float) → T (not (both_zero y x)) → arctangent_in y x ≡ answered (arctangent_of y x)
unfolding arctangent_in
arctangent_answered y x n = rw (is_false (both_zero y x) n)

module _ (y x : Float) (v : Rad) (e : arctangent_in y x ≡ answered v) where
  is_arctangent : T (not (both_zero y x)) × (v ≡ arctangent_of y x)
  unfolding arctangent_in
  is_arctangent = by_case (both_zero y x) e
    where
      by_case : (b : Bool) → cond b (refused 14) (answered (arctangent_of y x)) ≡ answered v → T (not b) × (v ≡ arctangent_of y x)
      by_case true e = absurd (refused_not_answered e)
      by_case false e = (tt, sym (same_value e))

  module _ (p : Finite y) (q : Finite x) where
    pub arctangent_in_sign : bears_minus v.0 ≡ bears_minus y
    arctangent_in_sign = rw is_arctangent.1 (arctangent_sign y x p q is_arctangent.0)

    pub arctangent_in_finite : Finite v.0
    arctangent_in_finite = rw is_arctangent.1 (arctangent_finite y x p q is_arctangent.0)

    pub arctangent_in_at_most_half : bears_minus x ≡ false → size v.0 ≼ HALF
    arctangent_in_at_most_half h = rw is_arctangent.1 (arctangent_at_most_half y x p q is_arctangent.0 h)

    pub arctangent_in_at_least_half : bears_minus x ≡ true → HALF ≼ size v.0
    arctangent_in_at_least_half h = rw is_arctangent.1 (arctangent_at_least_half y x p q is_arctangent.0 h)

    pub arctangent_in_at_most_pi : size v.0 ≼ PI
    arctangent_in_at_most_pi = rw is_arctangent.1 (arctangent_at_most_pi y x p q is_arctangent.0)

pub arctangent_in_behind : (y x : Float) (v : Rad) → arctangent_in y x ≡ answered v → (w : Rad) → arctangent_in y (neg x) ≡ answered w
    → bears_minus x ≡ false → size w.0 ≡ PI ⊖ size v.0
arctangent_in_behind y x v e w e' h =
    let here = is_arctangent y x v e in
    let there = is_arctangent y (neg x) w e' in
    rw (here.1, there.1) (arctangent_behind y x here.0 h)
