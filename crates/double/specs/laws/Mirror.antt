-- The sign laws of the four operations, at every format and for every operand. A sum whose sign is to turn must not be zero,
-- since x + −x is +0 either way round; nothing else is asked.
use Rattle.std.specs.Prelude.{◌≡◌, ℕ, ◌+◌, ◌-◌, ◌*◌, ◌<◌, ◌≤◌, Bool, true, false, cond, not, ◌&&◌, T, pos, ◌==◌, nat_lt, refl, Float}
use Rattle.std.proofs.Common.{ap, ◌∙◌, subst, arith, ltb→lt, nltb→le}
use Rattle.std.proofs.Math.Nat as Nat
use Rattle.std.specs.Float.{nan, inf, fin, Format}
use Rattle.std.specs.Float.Ieee.{unlike, up, down, round, neg, sum, add, sub, mul, div, eq, of_bits}
use Rattle.double.specs.rules.Order.{NonZero}
use Rattle.double.specs.laws.Sign.{neg_neg}
use Rattle.double.specs.laws.Rounding.{round_neg, round_zero}

-- ---- the sign of a product or a quotient

unlike_l : (s t : Bool) → unlike (not s) t ≡ not (unlike s t)
unlike_l true true = refl
unlike_l true false = refl
unlike_l false true = refl
unlike_l false false = refl

unlike_comm : (s t : Bool) → unlike s t ≡ unlike t s
unlike_comm true true = refl
unlike_comm true false = refl
unlike_comm false true = refl
unlike_comm false false = refl

-- ---- products

pub mul_comm : (f : Format) (x y : Float) → mul f x y ≡ mul f y x
unfolding mul
mul_comm f nan nan = refl
mul_comm f nan (inf t) = refl
mul_comm f nan (fin t n d) = refl
mul_comm f (inf s) nan = refl
mul_comm f (inf s) (inf t) = ap inf (unlike_comm s t)
mul_comm f (inf s) (fin t n d) = ap (λ (u : Bool). cond (n == 0) nan (inf u)) (unlike_comm s t)
mul_comm f (fin s m e) nan = refl
mul_comm f (fin s m e) (inf t) = ap (λ (u : Bool). cond (m == 0) nan (inf u)) (unlike_comm s t)
mul_comm f (fin s m e) (fin t n d) =
    ap (λ (u : Bool). round f u (m * up e * (n * up d)) (down e * down d)) (unlike_comm s t)
    ∙ ap (λ (a : ℕ). round f (unlike t s) a (down e * down d)) (Nat.mul_comm (m * up e) (n * up d))
    ∙ ap (λ (c : ℕ). round f (unlike t s) (n * up d * (m * up e)) c) (Nat.mul_comm (down e) (down d))

infinite_neg : (b s : Bool) → cond b nan (inf (not s)) ≡ neg (cond b nan (inf s))
unfolding neg
infinite_neg true s = refl
infinite_neg false s = refl

pub mul_neg_l : (f : Format) (x y : Float) → mul f (neg x) y ≡ neg (mul f x y)
unfolding mul neg
mul_neg_l f nan y = refl
mul_neg_l f (inf s) nan = refl
mul_neg_l f (inf s) (inf t) = ap inf (unlike_l s t)
mul_neg_l f (inf s) (fin t n d) = rw (unlike_l s t) (infinite_neg (n == 0) (unlike s t))
mul_neg_l f (fin s m e) nan = refl
mul_neg_l f (fin s m e) (inf t) = rw (unlike_l s t) (infinite_neg (m == 0) (unlike s t))
mul_neg_l f (fin s m e) (fin t n d) =
    ap (λ (u : Bool). round f u (m * up e * (n * up d)) (down e * down d)) (unlike_l s t)
    ∙ round_neg f (unlike s t) (m * up e * (n * up d)) (down e * down d)

pub mul_neg_r : (f : Format) (x y : Float) → mul f x (neg y) ≡ neg (mul f x y)
mul_neg_r f x y = mul_comm f x (neg y) ∙ mul_neg_l f y x ∙ ap neg (mul_comm f y x)

pub mul_neg_neg : (f : Format) (x y : Float) → mul f (neg x) (neg y) ≡ mul f x y
mul_neg_neg f x y = mul_neg_l f x (neg y) ∙ ap neg (mul_neg_r f x y) ∙ neg_neg (mul f x y)

-- ---- quotients

-- of finite numbers m and n, with the sign s: a over c
abbrev quotient : Format → ℕ → ℕ → Bool → ℕ → ℕ → Float
quotient f m n s a c = cond (n == 0) (cond (m == 0) nan (inf s)) (round f s a c)

quotient_neg : (f : Format) (m n : ℕ) (s : Bool) (a c : ℕ) → quotient f m n (not s) a c ≡ neg (quotient f m n s a c)
quotient_neg f m n s a c = rw (round_neg f s a c) (by_case (n == 0))
  where
    by_case : (b : Bool)
        → cond b (cond (m == 0) nan (inf (not s))) (neg (round f s a c)) ≡ neg (cond b (cond (m == 0) nan (inf s)) (round f s a c))
    by_case true = infinite_neg (m == 0) s
    by_case false = refl

pub div_neg_l : (f : Format) (x y : Float) → div f (neg x) y ≡ neg (div f x y)
unfolding div neg
div_neg_l f nan y = refl
div_neg_l f (inf s) nan = refl
div_neg_l f (inf s) (inf t) = refl
div_neg_l f (inf s) (fin t n d) = ap inf (unlike_l s t)
div_neg_l f (fin s m e) nan = refl
div_neg_l f (fin s m e) (inf t) = ap (λ (u : Bool). fin u 0 (pos 0)) (unlike_l s t)
div_neg_l f (fin s m e) (fin t n d) =
    ap (λ (u : Bool). quotient f m n u (m * up e * down d) (n * up d * down e)) (unlike_l s t)
    ∙ quotient_neg f m n (unlike s t) (m * up e * down d) (n * up d * down e)

-- ---- sums

both_zero_lem : (a b : ℕ) → b ≤ a → a ≤ b → a - b ≡ b - a
both_zero_lem a b p q = omega arith

no_rest : (a b : ℕ) → a ≤ b → a - b ≡ 0
no_rest a b q = omega arith

clash : (a b : ℕ) → a < b → b < a → ⊥
clash a b p q = omega arith

-- a − b over c and b − a over c, where neither sign is the other's
unlike_comm_sum : (f : Format) (a b c : ℕ) → sum f true a false b c ≡ sum f false b true a c
unfolding sum
unlike_comm_sum f a b c = go (nat_lt a b) (nat_lt b a) (ltb→lt a b) (ltb→lt b a) (nltb→le a b) (nltb→le b a)
  where
    go : (x y : Bool) → (T x → a < b) → (T y → b < a) → (T (not x) → b ≤ a) → (T (not y) → a ≤ b)
        → cond x (round f false (b - a) c) (round f (true && y) (a - b) c) ≡ cond y (round f true (a - b) c) (round f (false && x) (b - a) c)
    go true true p q _ _ = absurd (clash a b (p tt) (q tt))
    go true false p q _ _ = refl
    go false true p q _ _ = refl
    go false false _ _ p q = ap (λ (z : ℕ). round f false z c) (both_zero_lem a b (p tt) (q tt))

rounds_to_zero : (f : Format) (a b c : ℕ) → a ≤ b → NonZero (round f false (a - b) c) → ⊥
unfolding eq of_bits
rounds_to_zero f a b c q h =
    subst (λ (z : Float). NonZero z) (ap (λ (z : ℕ). round f false z c) (no_rest a b q) ∙ round_zero f false c) h

unlike_neg_sum : (f : Format) (a b c : ℕ) → NonZero (sum f true a false b c) → sum f false a true b c ≡ neg (sum f true a false b c)
unfolding sum
unlike_neg_sum f a b c h = go (nat_lt a b) (nat_lt b a) (nltb→le b a) h
  where
    go : (x y : Bool) → (T (not y) → a ≤ b)
        → NonZero (cond x (round f false (b - a) c) (round f (true && y) (a - b) c))
        → cond x (round f true (b - a) c) (round f (false && y) (a - b) c) ≡ neg (cond x (round f false (b - a) c) (round f (true && y) (a - b) c))
    go true y q h = round_neg f false (b - a) c
    go false true q h = round_neg f true (a - b) c
    go false false q h = absurd (rounds_to_zero f a b c (q tt) h)

sum_neg : (f : Format) (s : Bool) (a : ℕ) (t : Bool) (b c : ℕ) → NonZero (sum f s a t b c)
    → sum f (not s) a (not t) b c ≡ neg (sum f s a t b c)
sum_neg f true a true b c h = unfold sum in round_neg f true (a + b) c
sum_neg f false a false b c h = unfold sum in round_neg f false (a + b) c
sum_neg f true a false b c h = unlike_neg_sum f a b c h
sum_neg f false a true b c h =
    unlike_comm_sum f a b c ∙ unlike_neg_sum f b a c (rw (unlike_comm_sum f b a c) h) ∙ ap neg (unlike_comm_sum f b a c)

pub add_neg_neg : (f : Format) (x y : Float) → NonZero (add f x y) → add f (neg x) (neg y) ≡ neg (add f x y)
unfolding add neg
add_neg_neg f nan y h = refl
add_neg_neg f (inf s) nan h = refl
add_neg_neg f (inf true) (inf true) h = refl
add_neg_neg f (inf true) (inf false) h = refl
add_neg_neg f (inf false) (inf true) h = refl
add_neg_neg f (inf false) (inf false) h = refl
add_neg_neg f (inf s) (fin t n d) h = refl
add_neg_neg f (fin s m e) nan h = refl
add_neg_neg f (fin s m e) (inf t) h = refl
add_neg_neg f (fin s m e) (fin t n d) h = sum_neg f s (m * up e * down d) t (n * up d * down e) (down e * down d) h

-- ---- differences

pub sub_neg_neg : (f : Format) (x y : Float) → NonZero (sub f x y) → sub f (neg x) (neg y) ≡ neg (sub f x y)
unfolding sub
sub_neg_neg f x y h = add_neg_neg f x (neg y) h

pub sub_neg_r : (f : Format) (x y : Float) → sub f x (neg y) ≡ add f x y
unfolding sub
sub_neg_r f x y = ap (add f x) (neg_neg y)

pub add_neg_r : (f : Format) (x y : Float) → add f x (neg y) ≡ sub f x y
unfolding sub
add_neg_r f x y = refl

-- ---- a NaN as the second operand

pub sub_nan : (f : Format) (x : Float) → sub f x nan ≡ nan
unfolding sub add neg
sub_nan f nan = refl
sub_nan f (inf s) = refl
sub_nan f (fin s m e) = refl

pub div_nan : (f : Format) (x : Float) → div f x nan ≡ nan
unfolding div
div_nan f nan = refl
div_nan f (inf s) = refl
div_nan f (fin s m e) = refl
