-- What each operation rounds, and that rounding keeps the order of the fractions.
use Rattle.std.specs.Prelude.{◌≡◌, ℕ, ◌+◌, ◌-◌, ◌*◌, ◌<◌, ◌≤◌, Bool, true, false, cond, not, ◌&&◌, T, ◌==◌, ◌≢◌, nat_lt, Float}
use Rattle.std.proofs.Math.Path.{refl}
use Rattle.std.proofs.Common.{sym, ap, ◌∙◌, mul-pos, eq-zero-or-pos, not-le_of_lt, arith, ltb→lt, nltb→le, eqb→eq}
use Rattle.std.proofs.Math.Logic.{inl, inr}
use Rattle.std.specs.Float.{nan, inf, fin, Format}
use Rattle.std.specs.Float.Ieee.{unlike, up, down, round, neg, sum, add, sub, mul, div, le}
use Rattle.std.specs.Float.Ieee.Order.{round_mono}
use Rattle.std.specs.Float.Ieee.Positive.{num, den, positive}
use Rattle.double.specs.rules.Sign.{is_finite}
use Rattle.double.specs.rules.Order.{◌≼◌, Finite, Plus}
use Rattle.double.specs.notions.Fraction.{plus_part, minus_part, Signed, Rounds}
use Rattle.double.specs.laws.Sign.{neg_neg, finite_neg}
use Rattle.double.specs.laws.Rounding.{round_neg, round_zero, round_plus}
use Rattle.double.specs.laws.Order.{neg_le, minus_le_plus}

-- ---- what bears a plus sign has one part only

pub minus_none : (x : Float) → Plus x → minus_part x ≡ 0
minus_none nan p = absurd p
minus_none (inf s) p = refl
minus_none (fin true m e) p = absurd p
minus_none (fin false m e) p = refl

pub plus_all : (x : Float) → Plus x → plus_part x ≡ num x
plus_all nan p = absurd p
plus_all (inf s) p = refl
plus_all (fin true m e) p = absurd p
plus_all (fin false m e) p = refl

-- ---- rounding keeps the order

-- from round s a d to round s' a' d', for each pair of signs
round_le : (f : Format) (p n d p' n' d' : ℕ) → 0 < d → 0 < d' → p * d' + n' * d ≤ p' * d + n * d'
    → (s : Bool) (a : ℕ) (s' : Bool) (a' : ℕ) → Signed s p n a → Signed s' p' n' a' → round f s a d ≼ round f s' a' d'
round_le f p n d p' n' d' D D' h false a false a' v v' =
    round_mono f a d a' d' D D' (omega (arith, ap (λ (x : ℕ). x * d') v, ap (λ (x : ℕ). x * d) v'))
round_le f p n d p' n' d' D D' h true a true a' v v' =
    rw (round_neg f false a d, round_neg f false a' d')
    (neg_le (round f false a' d') (round f false a d)
    (round_mono f a' d' a d D' D (omega (arith, ap (λ (x : ℕ). x * d') v, ap (λ (x : ℕ). x * d) v'))))
round_le f p n d p' n' d' D D' h true a false a' v v' =
    rw (round_neg f false a d) (minus_le_plus (round f false a d) (round f false a' d') (round_plus f a d) (round_plus f a' d'))
round_le f p n d p' n' d' D D' h false a true a' v v' =
    let z : a ≡ 0 = none a d' D' (omega (arith, ap (λ (x : ℕ). x * d') v, ap (λ (x : ℕ). x * d) v')) in
    let z' : a' ≡ 0 = none a' d D (omega (arith, ap (λ (x : ℕ). x * d') v, ap (λ (x : ℕ). x * d) v')) in
    rw (z, z', round_zero f false d, round_zero f true d') (unfold le in tt)
  where
    none : (a d : ℕ) → 0 < d → a * d ≤ 0 → a ≡ 0
    none a d D h = elim (eq-zero-or-pos a) [ inl z ↦ z | inr p ↦ absurd (not-le_of_lt (mul-pos p D) h) ]

pub rounds_mono : (f : Format) (z z' : Float) (p n d p' n' d' : ℕ) → 0 < d → 0 < d' → Rounds f z p n d
    → Rounds f z' p' n' d' → p * d' + n' * d ≤ p' * d + n * d' → z ≼ z'
rounds_mono f z z' p n d p' n' d' D D' r r' h =
    rw (r.is, r'.is) (round_le f p n d p' n' d' D D' h r.sign r.top r'.sign r'.top r.value r'.value)

-- ---- what each operation rounds

sum_rounds : (f : Format) (a b c : ℕ) (s t : Bool) (p n : ℕ) → p ≡ cond s 0 a + cond t 0 b → n ≡ cond s a 0 + cond t b 0
    → Rounds f (sum f s a t b c) p n c
unfolding sum
sum_rounds f a b c false false p n v w = record { sign = false; top = a + b; is = refl; value = omega arith }
sum_rounds f a b c true true p n v w = record { sign = true; top = a + b; is = refl; value = omega arith }
sum_rounds f a b c false true p n v w = go (nat_lt a b) (nat_lt b a) (ltb→lt a b) (nltb→le a b)
  where
    go : (x y : Bool) → (T x → a < b) → (T (not x) → b ≤ a)
        → Rounds f (cond x (round f true (b - a) c) (round f (false && y) (a - b) c)) p n c
    go true y h k = let h' = h tt in record { sign = true; top = b - a; is = refl; value = omega arith }
    go false y h k = let k' = k tt in record { sign = false; top = a - b; is = refl; value = omega arith }
sum_rounds f a b c true false p n v w = go (nat_lt a b) (nat_lt b a) (ltb→lt a b) (nltb→le a b) (nltb→le b a)
  where
    go : (x y : Bool) → (T x → a < b) → (T (not x) → b ≤ a) → (T (not y) → a ≤ b)
        → Rounds f (cond x (round f false (b - a) c) (round f (true && y) (a - b) c)) p n c
    go true y h k j = let h' = h tt in record { sign = false; top = b - a; is = refl; value = omega arith }
    go false true h k j = let k' = k tt in record { sign = true; top = a - b; is = refl; value = omega arith }
    go false false h k j = let k' = k tt in let j' = j tt in record { sign = false; top = a - b; is = refl; value = omega arith }

pub add_rounds : (f : Format) (x y : Float) → Finite x → Finite y
    → Rounds f (add f x y) (plus_part x * den y + plus_part y * den x) (minus_part x * den y + minus_part y * den x) (den x * den y)
unfolding add is_finite
add_rounds f nan y p q = absurd p
add_rounds f (inf s) y p q = absurd p
add_rounds f (fin s m e) nan p q = absurd q
add_rounds f (fin s m e) (inf t) p q = absurd q
add_rounds f (fin false m e) (fin false n d) p q =
    sum_rounds f (m * up e * down d) (n * up d * down e) (down e * down d) false false _ _ refl (omega arith)
add_rounds f (fin false m e) (fin true n d) p q =
    sum_rounds f (m * up e * down d) (n * up d * down e) (down e * down d) false true _ _ (omega arith) (omega arith)
add_rounds f (fin true m e) (fin false n d) p q =
    sum_rounds f (m * up e * down d) (n * up d * down e) (down e * down d) true false _ _ (omega arith) (omega arith)
add_rounds f (fin true m e) (fin true n d) p q =
    sum_rounds f (m * up e * down d) (n * up d * down e) (down e * down d) true true _ _ (omega arith) refl

plus_neg : (y : Float) → plus_part (neg y) ≡ minus_part y
unfolding neg
plus_neg nan = refl
plus_neg (inf s) = refl
plus_neg (fin true m e) = refl
plus_neg (fin false m e) = refl

minus_neg : (y : Float) → minus_part (neg y) ≡ plus_part y
unfolding neg
minus_neg nan = refl
minus_neg (inf s) = refl
minus_neg (fin true m e) = refl
minus_neg (fin false m e) = refl

den_neg : (y : Float) → den (neg y) ≡ den y
unfolding neg
den_neg nan = refl
den_neg (inf s) = refl
den_neg (fin s m e) = refl

pub sub_rounds : (f : Format) (x y : Float) → Finite x → Finite y
    → Rounds f (sub f x y) (plus_part x * den y + minus_part y * den x) (minus_part x * den y + plus_part y * den x) (den x * den y)
unfolding sub
sub_rounds f x y p q = rw (← plus_neg y, ← minus_neg y, ← den_neg y) (add_rounds f x (neg y) p (rw (finite_neg y) q))

pub mul_rounds : (f : Format) (x y : Float) → Finite x → Finite y
    → Rounds f (mul f x y) (plus_part x * plus_part y + minus_part x * minus_part y)
    (plus_part x * minus_part y + minus_part x * plus_part y) (den x * den y)
unfolding mul is_finite
mul_rounds f nan y p q = absurd p
mul_rounds f (inf s) y p q = absurd p
mul_rounds f (fin s m e) nan p q = absurd q
mul_rounds f (fin s m e) (inf t) p q = absurd q
mul_rounds f (fin false m e) (fin false n d) p q = record { sign = false; top = m * up e * (n * up d); is = refl; value = omega arith }
mul_rounds f (fin false m e) (fin true n d) p q = record { sign = true; top = m * up e * (n * up d); is = refl; value = omega arith }
mul_rounds f (fin true m e) (fin false n d) p q = record { sign = true; top = m * up e * (n * up d); is = refl; value = omega arith }
mul_rounds f (fin true m e) (fin true n d) p q = record { sign = false; top = m * up e * (n * up d); is = refl; value = omega arith }

-- by a divisor above zero
pub div_rounds : (f : Format) (x y : Float) → Finite x → T (positive y)
    → Rounds f (div f x y) (plus_part x * den y) (minus_part x * den y) (num y * den x)
unfolding div is_finite
div_rounds f nan y p q = absurd p
div_rounds f (inf s) y p q = absurd p
div_rounds f (fin s m e) nan p q = absurd q
div_rounds f (fin s m e) (inf t) p q = absurd q
div_rounds f (fin s m e) (fin true n d) p q = absurd q
div_rounds f (fin s m e) (fin false n d) p q = go (n == 0) (eqb→eq n 0) s
  where
    no : (n : ℕ) → 0 < n → n ≢ 0
    no n h z = omega arith

    go : (b : Bool) → (T b → n ≡ 0) → (s : Bool)
        → Rounds f
        (cond b (cond (m == 0) nan (inf (unlike s false))) (round f (unlike s false) (m * up e * down d) (n * up d * down e)))
        (plus_part (fin s m e) * down d) (minus_part (fin s m e) * down d) (n * up d * down e)
    go true z s = absurd (no n (ltb→lt 0 n q) (z tt))
    go false z false = record { sign = false; top = m * up e * down d; is = refl; value = omega arith }
    go false z true = record { sign = true; top = m * up e * down d; is = refl; value = omega arith }

-- ---- no rounded fraction is a NaN

pub rounds_not_nan : {f : Format} {z : Float} {p n d : ℕ} → Rounds f z p n d → z ≢ nan
rounds_not_nan {f} {d = d} r e = by_sign r.sign (sym r.is ∙ e)
  where
    no_plus : (x : Float) → Plus x → x ≢ nan
    no_plus x p e = rw e at p

    neg-nan : neg nan ≡ nan
    neg-nan = unfold neg in refl

    by_sign : (s : Bool) → round f s r.top d ≢ nan
    by_sign false e = no_plus (round f false r.top d) (round_plus f r.top d) e
    by_sign true e =
        no_plus (round f false r.top d) (round_plus f r.top d)
        (sym (neg_neg (round f false r.top d)) ∙ ap neg (sym (round_neg f false r.top d) ∙ e) ∙ neg-nan)
