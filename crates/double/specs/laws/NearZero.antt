-- Values near zero, where rounding is coarse: a double is its own rounding, a factor of size 1 at most makes no value larger, and
-- where no operand bears a minus sign no result does.
use Rattle.std.specs.Prelude.{◌≡◌, ℕ, zero, suc, ◌+◌, ◌-◌, ◌*◌, ◌%◌, ◌^◌, ◌<◌, ◌≤◌, Bool, true, false, cond, ◌&&◌, T, ltb, ℤ, pos, negsuc, ◌==◌, ◌≢◌, nat_eq, nat_le, nat_lt, refl, Float}
use Rattle.std.proofs.Common.{sym, ap, ◌∙◌, subst, inl, inr, not-le_of_lt, lt_of_not-le, le_of_suc-le-suc, mul_assoc, mul_comm, mul-one, one-mul, zero-mul, mul-pos, mul-le-mul_right, mul-lt-mul_of_pos_right, mod-lt, le_of_lt, le_of_eq, le_trans as le-trans-ℕ, arith, ltb→lt, leb→le, eqb→eq, pow-add, pow_pos}
use Rattle.std.proofs.Math.Pow.{pow-lt}
use Rattle.std.specs.Float.{nan, inf, fin, Format, binary32, binary64}
use Rattle.std.specs.Float.Ieee.{prec, emax, low, up, down, round, neg, sum, add, sub, mul, div, rem, fits, of_bits}
use Rattle.std.specs.Float.Ieee.Fits.{and_l, and_r, up_pos, down_pos}
use Rattle.std.specs.Float.Ieee.Exact.{HasValue, round_exact}
use Rattle.std.specs.Float.Ieee.Digits.{back}
use Rattle.std.specs.Float.Ieee.Order.{round_mono}
use Rattle.std.specs.Float.Ieee.Positive.{positive}
use Rattle.double.specs.rules.Operations.{one}
use Rattle.double.specs.rules.Sign.{is_finite}
use Rattle.double.specs.rules.Order.{◌≼◌, Finite, Plus, Between}
use Rattle.double.specs.notions.Fraction.{Rounds}
use Rattle.double.specs.laws.Sign.{finite_neg}
use Rattle.double.specs.laws.Rounding.{round_neg, round_zero, round_plus}
use Rattle.double.specs.laws.Mirror
use Rattle.double.specs.laws.Order.{below→le, le→below, le_trans, neg_le, minus_le_plus}
use Rattle.double.specs.laws.Between.{between, between_neg}
use Rattle.double.specs.laws.Fraction.{rounds_mono, div_rounds}
use Rattle.double.specs.laws.Monotone.{mul_amid}

-- ---- a value that its format holds is its own rounding

-- m · 2^e, where m has at most `prec` digits, 2^e is no less than the smallest value, and the product not too large
pub scaled_value : (f : Format) (s : Bool) (m : ℕ) (e : ℤ) → m < 2 ^ prec f → down e ≤ 2 ^ low f → m * up e < 2 ^ suc (emax f) * down e
    → HasValue (round f s (m * up e) (down e)) s (m * up e) (down e)
scaled_value f s m (pos k) a b c =
    round_exact f s (m * 2 ^ k) 1 m (k + low f) (pow_pos 0) a
    (subst (λ (x : ℕ). x < 2 ^ (low f + suc (emax f))) (sym raised)
    (subst (λ (x : ℕ). m * 2 ^ k * 2 ^ low f < x) (joined (low f) (suc (emax f)))
    (mul-lt-mul_of_pos_right (subst (λ (x : ℕ). m * 2 ^ k < x) (mul-one (2 ^ suc (emax f))) c) (pow_pos (low f)))))
    (sym raised ∙ sym (mul-one (m * 2 ^ (k + low f))))
  where
    raised : m * 2 ^ (k + low f) ≡ m * 2 ^ k * 2 ^ low f
    raised = ap (λ (x : ℕ). m * x) (pow-add 2 k (low f)) ∙ sym (mul_assoc m (2 ^ k) (2 ^ low f))

    joined : (i j : ℕ) → 2 ^ j * 2 ^ i ≡ 2 ^ (i + j)
    joined i j = mul_comm (2 ^ j) (2 ^ i) ∙ sym (pow-add 2 i j)
scaled_value f s m (negsuc k) a b c =
    round_exact f s (m * 1) (2 ^ suc k) m (low f - suc k) (pow_pos (suc k)) a
    (subst (λ (x : ℕ). m * 2 ^ (low f - suc k) < x) room
    (mul-lt-mul_of_pos_right (subst (λ (x : ℕ). x < 2 ^ suc (emax f) * 2 ^ suc k) (mul-one m) c) (pow_pos (low f - suc k))))
    (ap (λ (x : ℕ). x * 2 ^ low f) (mul-one m) ∙ ap (λ (x : ℕ). m * x) (sym whole) ∙ sym (mul_assoc m (2 ^ (low f - suc k)) (2 ^ suc k)))
  where
    reach : suc k ≤ low f
    reach = le_of_suc-le-suc (lt_of_not-le (λ (g : suc (low f) ≤ suc k). not-le_of_lt (pow-lt g) b))

    whole : 2 ^ (low f - suc k) * 2 ^ suc k ≡ 2 ^ low f
    whole = sym (pow-add 2 (low f - suc k) (suc k)) ∙ ap (λ (x : ℕ). 2 ^ x) (back (low f) (suc k) reach)

    room : 2 ^ suc (emax f) * 2 ^ suc k * 2 ^ (low f - suc k) ≡ 2 ^ (low f + suc (emax f))
    room =
        mul_assoc (2 ^ suc (emax f)) (2 ^ suc k) (2 ^ (low f - suc k))
        ∙ ap (λ (x : ℕ). 2 ^ suc (emax f) * x) (mul_comm (2 ^ suc k) (2 ^ (low f - suc k)) ∙ whole)
        ∙ mul_comm (2 ^ suc (emax f)) (2 ^ low f)
        ∙ sym (pow-add 2 (low f) (suc (emax f)))

pub own_value : (f : Format) (s : Bool) (m : ℕ) (e : ℤ) → T (fits f (fin s m e))
    → HasValue (round f s (m * up e) (down e)) s (m * up e) (down e)
unfolding fits
own_value f s zero e t =
    subst (λ (n : ℕ). HasValue (round f s n (down e)) s n (down e)) (sym (zero-mul (up e)))
    (subst (λ (z : Float). HasValue z s 0 (down e)) (sym (round_zero f s (down e))) (refl, zero-mul (down e)))
own_value f s (suc m) e t =
    let odd = nat_eq (suc m % 2) 1 in
    let short = ltb (suc m) (2 ^ prec f) in
    let fine = nat_le (down e) (2 ^ low f) in
    let small = ltb (suc m * up e) (2 ^ suc (emax f) * down e) in
    let t' = and_l (odd && short && fine) small t in
    scaled_value f s (suc m) e (ltb→lt (suc m) (2 ^ prec f) (and_r odd short (and_l (odd && short) fine t')))
    (leb→le (down e) (2 ^ low f) (and_r (odd && short) fine t'))
    (ltb→lt (suc m * up e) (2 ^ suc (emax f) * down e) (and_r (odd && short && fine) small t))

-- ---- so a factor of 1 changes nothing

-- z equals x
record Same (z x : Float) : Type 0 where
  finite : Finite z
  to : z ≼ x
  from : x ≼ z

same_of_value : (z : Float) (s : Bool) (m : ℕ) (e : ℤ) → HasValue z s (m * up e) (down e) → Same z (fin s m e)
unfolding is_finite
same_of_value nan s m e h = absurd h
same_of_value (inf t) s m e h = absurd h
same_of_value (fin t n d) s m e h = subst (λ (u : Bool). Same (fin t n d) (fin u m e)) h.0 (by_sign t h.1)
  where
    by_sign : (u : Bool) → n * up d * down e ≡ m * up e * down d → Same (fin u n d) (fin u m e)
    by_sign false q = record { finite = tt; to = below→le (fin false n d) (fin false m e) tt tt (omega arith); from = below→le (fin false m e) (fin false n d) tt tt (omega arith) }
    by_sign true q = record { finite = tt; to = below→le (fin true n d) (fin true m e) tt tt (omega arith); from = below→le (fin true m e) (fin true n d) tt tt (omega arith) }

one_times_signed : (f : Format) (s : Bool) (m : ℕ) (e : ℤ) → T (fits f (fin s m e))
    → Same (round f s (1 * (m * up e)) (1 * down e)) (fin s m e)
one_times_signed f s m e t =
    rw (one-mul (m * up e), one-mul (down e))
    (same_of_value (round f s (m * up e) (down e)) s m e (own_value f s m e t))

one_times : (f : Format) (x : Float) → T (fits f x) → Finite x → Same (mul f one x) x
unfolding mul is_finite of_bits
one_times f nan t p = absurd p
one_times f (inf s) t p = absurd p
one_times f (fin true m e) t p = one_times_signed f true m e t
one_times f (fin false m e) t p = one_times_signed f false m e t

-- a factor of size 1 at most makes no value larger
pub mul_shrinks : (f : Format) (q p : Float) → T (fits f q) → Finite q → Plus q → Between (neg one) one p → Between (neg q) q (mul f q p)
mul_shrinks f q p F Q P i =
    let o = mul f one q in
    let s = one_times f q F Q in
    let e : mul f (neg one) q ≡ neg o = Mirror.mul_neg_l f one q in
    let N : Finite (neg q) = rw (finite_neg q) Q in
    let cross : neg q ≼ q = minus_le_plus q q P P in
    rw (Mirror.mul_comm f q p)
    (elim (mul_amid f (neg one) p one q i.start i.finite i.end Q i.from i.to) [
      | inl m ↦
          between N Q (le_trans (neg q) (neg o) (mul f p q) (neg_le o q s.to) (rw e at m.0))
          (le_trans (mul f p q) o q m.1 s.to)
      | inr m ↦
          between N Q (le_trans (neg q) q (mul f p q) cross (le_trans q o (mul f p q) s.from m.0))
          (le_trans (mul f p q) (neg q) q (le_trans (mul f p q) (neg o) (neg q) (rw e at m.1) (neg_le q o s.from)) cross)
    ])

-- ---- and a fraction no larger than a value rounds to one no larger

round_shrinks : (f : Format) (s : Bool) (a c n : ℕ) (d : ℤ) → T (fits f (fin false n d)) → 0 < c
    → a * down d ≤ n * up d * c → Between (fin true n d) (fin false n d) (round f s a c)
unfolding is_finite neg
round_shrinks f s a c n d F p h = by_sign s
  where
    y : Float
    y = fin false n d

    z : Float
    z = round f false a c

    o : Float
    o = round f false (n * up d) (down d)

    plus-between : Between (fin true n d) (fin false n d) z
    plus-between =
        between tt tt (minus_le_plus y z tt (round_plus f a c))
        (le_trans z o y (round_mono f a c (n * up d) (down d) p (down_pos d) h) (same_of_value o false n d (own_value f false n d F)).to)

    by_sign : (s : Bool) → Between (fin true n d) (fin false n d) (round f s a c)
    by_sign false = plus-between
    by_sign true = rw (round_neg f false a c) (between_neg plus-between)

-- the exact remainder by y is y at most in size
pub rem_between : (f : Format) (x y : Float) → T (fits f y) → T (positive y) → Finite x → Between (neg y) y (rem f x y)
unfolding rem neg is_finite
rem_between f nan y F p q = absurd q
rem_between f (inf s) y F p q = absurd q
rem_between f (fin s m e) nan F p q = absurd p
rem_between f (fin s m e) (inf t) F p q = absurd p
rem_between f (fin s m e) (fin true n d) F p q = absurd p
rem_between f (fin s m e) (fin false n d) F p q = by_case (n == 0) (eqb→eq n 0)
  where
    no : (n : ℕ) → 0 < n → n ≢ 0
    no n h z = omega arith

    b : ℕ
    b = n * up d * down e

    less : m * up e * down d % b * down d ≤ n * up d * (down e * down d)
    less =
        le-trans-ℕ
        (mul-le-mul_right (down d) (le_of_lt (mod-lt (m * up e * down d) (mul-pos (mul-pos (ltb→lt 0 n p) (up_pos d)) (down_pos e)))))
        (le_of_eq (mul_assoc (n * up d) (down e) (down d)))

    by_case : (t : Bool) → (T t → n ≡ 0)
        → Between (fin true n d) (fin false n d) (cond t nan (round f s (m * up e * down d % b) (down e * down d)))
    by_case true z = absurd (no n (ltb→lt 0 n p) (z tt))
    by_case false z = round_shrinks f s (m * up e * down d % b) (down e * down d) n d F (mul-pos (down_pos e) (down_pos d)) less

-- ---- where no minus sign appears

pub mul_plus : (f : Format) (x y : Float) → Finite x → Finite y → Plus x → Plus y → Plus (mul f x y)
unfolding mul is_finite
mul_plus f nan y p q r s = absurd p
mul_plus f (inf u) y p q r s = absurd p
mul_plus f (fin true m e) y p q r s = absurd r
mul_plus f (fin false m e) nan p q r s = absurd q
mul_plus f (fin false m e) (inf u) p q r s = absurd q
mul_plus f (fin false m e) (fin true n d) p q r s = absurd s
mul_plus f (fin false m e) (fin false n d) p q r s = round_plus f (m * up e * (n * up d)) (down e * down d)

-- x + y for −x ≤ y
pub add_plus : (f : Format) (x y : Float) → Finite x → Finite y → Plus x → neg x ≼ y → Plus (add f x y)
unfolding add sum neg is_finite
add_plus f nan y p q r h = absurd p
add_plus f (inf u) y p q r h = absurd p
add_plus f (fin true m e) y p q r h = absurd r
add_plus f (fin false m e) nan p q r h = absurd q
add_plus f (fin false m e) (inf u) p q r h = absurd q
add_plus f (fin false m e) (fin false n d) p q r h = round_plus f (m * up e * down d + n * up d * down e) (down e * down d)
add_plus f (fin false m e) (fin true n d) p q r h =
    by_case (nat_lt (m * up e * down d) (n * up d * down e)) (ltb→lt (m * up e * down d) (n * up d * down e))
    (nat_lt (n * up d * down e) (m * up e * down d))
  where
    small : n * up d * down e ≤ m * up e * down d
    small = omega (arith, le→below (fin true m e) (fin true n d) tt tt h)

    by_case : (b : Bool) → (T b → m * up e * down d < n * up d * down e) → (c : Bool)
        → Plus
        (cond b (round f true (n * up d * down e - m * up e * down d) (down e * down d)) (round f (false && c) (m * up e * down d - n * up d * down e) (down e * down d)))
    by_case true k c = absurd (not-le_of_lt (k tt) small)
    by_case false k c = round_plus f (m * up e * down d - n * up d * down e) (down e * down d)

-- x − y for y ≤ x
pub sub_plus : (f : Format) (x y : Float) → Finite x → Finite y → Plus x → y ≼ x → Plus (sub f x y)
unfolding sub
sub_plus f x y p q r h = add_plus f x (neg y) p (rw (finite_neg y) q) r (neg_le y x h)

pub div_plus : (f : Format) (x y : Float) → Finite x → Plus x → T (positive y) → Plus (div f x y)
unfolding div is_finite
div_plus f nan y p q r = absurd p
div_plus f (inf s) y p q r = absurd p
div_plus f (fin true m e) y p q r = absurd q
div_plus f (fin false m e) nan p q r = absurd r
div_plus f (fin false m e) (inf t) p q r = absurd r
div_plus f (fin false m e) (fin true n d) p q r = absurd r
div_plus f (fin false m e) (fin false n d) p q r = by_case (n == 0) (eqb→eq n 0)
  where
    no : (n : ℕ) → 0 < n → n ≢ 0
    no n h z = omega arith

    by_case : (b : Bool) → (T b → n ≡ 0)
        → Plus (cond b (cond (m == 0) nan (inf false)) (round f false (m * up e * down d) (n * up d * down e)))
    by_case true z = absurd (no n (ltb→lt 0 n r) (z tt))
    by_case false z = round_plus f (m * up e * down d) (n * up d * down e)

-- a quotient of two, of which the first is no larger
one_rounds : (f : Format) → Rounds f one 1 0 1
unfolding round of_bits
one_rounds binary32 = record { sign = false; top = 1; is = refl; value = refl }
one_rounds binary64 = record { sign = false; top = 1; is = refl; value = refl }

pub div_le_one : (f : Format) (x y : Float) → Finite x → Plus x → T (positive y) → x ≼ y → div f x y ≼ one
unfolding is_finite
div_le_one f nan y p q r h = absurd p
div_le_one f (inf s) y p q r h = absurd p
div_le_one f (fin true m e) y p q r h = absurd q
div_le_one f (fin false m e) nan p q r h = absurd r
div_le_one f (fin false m e) (inf t) p q r h = absurd r
div_le_one f (fin false m e) (fin true n d) p q r h = absurd r
div_le_one f (fin false m e) (fin false n d) p q r h =
    let x = fin false m e in
    let y = fin false n d in
    rounds_mono f (div f x y) one (m * up e * down d) (0 * down d) (n * up d * down e) 1 0 1
    (mul-pos (mul-pos (ltb→lt 0 n r) (up_pos d)) (down_pos e)) (pow_pos 0)
    (div_rounds f x y tt r) (one_rounds f) (omega (arith, le→below x y tt tt h))
