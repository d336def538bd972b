-- A format writes a value in one way, so a double taken from zero is the double negated, and its size the larger of the two.
use Rattle.std.specs.Prelude.{◌≡◌, ℕ, zero, suc, ◌+◌, ◌*◌, ◌%◌, ◌^◌, ◌<◌, ◌≤◌, Bool, true, false, cond, ◌&&◌, T, ℤ, pos, negsuc, ◌≢◌, nat_eq, nat_le, nat_lt, refl, Float}
use Rattle.std.proofs.Common.{sym, ap, ◌∙◌, subst, zero-add, mul-one, one-mul, zero-mul, mul_assoc, mul_left_comm, mul_right_comm, mul-pos, zero-lt-suc, lt_irrefl, arith, eqb→eq, lt-ltb, pow-add, pow_pos}
use Rattle.std.proofs.Math.Nat.{sub-zero, pow-succ', eq_of_mul-eq-mul_right}
use Rattle.std.specs.Float.{nan, inf, fin, Format, binary64}
use Rattle.std.specs.Float.Ieee.{prec, emax, low, up, down, round, neg, sum, add, sub, div, fits, lt, of_bits}
use Rattle.std.specs.Float.Ieee.Fits.{and_l, up_pos, down_pos, round-fits}
use Rattle.std.specs.Float.Ieee.Exact.{HasValue}
use Rattle.std.specs.Float.Ieee.Scale.{round_same}
use Rattle.double.specs.rules.Operations as operations
use Rattle.double.specs.rules.Operations.{◌⊖◌, ◌⊘◌}
use Rattle.double.specs.rules.Sign.{size, is_finite}
use Rattle.double.specs.rules.Order.{Plus, Between}
use Rattle.double.specs.laws.Order.{le→below}
use Rattle.double.specs.laws.NearZero.{own_value}

-- ---- one odd factor and one power of two

even_odd : (m t : ℕ) → m % 2 ≡ 1 → m ≢ 2 * t
even_odd m t o h = omega arith

doubled : (n b : ℕ) → n * 2 ^ suc b ≡ 2 * (n * 2 ^ b)
doubled n b = ap (λ (x : ℕ). n * x) (pow-succ' 2 b) ∙ mul_left_comm n 2 (2 ^ b)

odd_pow : (m n a b : ℕ) → m % 2 ≡ 1 → n % 2 ≡ 1 → m * 2 ^ a ≡ n * 2 ^ b → (m ≡ n) × (a ≡ b)
odd_pow m n zero zero o p h = (sym (mul-one m) ∙ h ∙ mul-one n, refl)
odd_pow m n zero (suc b) o p h = absurd (even_odd m (n * 2 ^ b) o (sym (mul-one m) ∙ h ∙ doubled n b))
odd_pow m n (suc a) zero o p h = absurd (even_odd n (m * 2 ^ a) p (sym (mul-one n) ∙ sym h ∙ doubled m a))
odd_pow m n (suc a) (suc b) o p h =
    let e : 2 * (m * 2 ^ a) ≡ 2 * (n * 2 ^ b) = sym (doubled m a) ∙ h ∙ doubled n b in
    let r = odd_pow m n a b o p (omega arith) in
    (r.0, ap suc r.1)

-- ---- two doubles of one value are one double

-- the exponents e and g as powers of two, each over the other
record Apart (e g : ℤ) : Type 0 where
  i : ℕ
  j : ℕ
  over : up e * down g ≡ 2 ^ i
  under : up g * down e ≡ 2 ^ j
  same : i ≡ j → e ≡ g

apart : (e g : ℤ) → Apart e g
apart (pos a) (pos b) = record { i = a; j = b; over = mul-one (2 ^ a); under = mul-one (2 ^ b); same = λ q. ap pos q }
apart (pos a) (negsuc b) = record { i = a + suc b; j = 0; over = sym (pow-add 2 a (suc b)); under = refl; same = λ q. absurd (none a b q) }
  where
    none : (a b : ℕ) → a + suc b ≢ 0
    none a b q = omega arith
apart (negsuc a) (pos b) = record { i = 0; j = b + suc a; over = refl; under = sym (pow-add 2 b (suc a)); same = λ q. absurd (none a b q) }
  where
    none : (a b : ℕ) → 0 ≢ b + suc a
    none a b q = omega arith
apart (negsuc a) (negsuc b) = record { i = suc b; j = suc a; over = one-mul (2 ^ suc b); under = one-mul (2 ^ suc a); same = λ q. ap negsuc (less a b q) }
  where
    less : (a b : ℕ) → suc b ≡ suc a → a ≡ b
    less a b q = omega arith

-- of a value that fits: m is odd, or it is 0 with the exponent 0
is_odd : (f : Format) (s : Bool) (m : ℕ) (e : ℤ) → T (fits f (fin s (suc m) e)) → suc m % 2 ≡ 1
unfolding fits
is_odd f s m e t =
    let odd = nat_eq (suc m % 2) 1 in
    let short = nat_lt (suc m) (2 ^ prec f) in
    let fine = nat_le (down e) (2 ^ low f) in
    let small = nat_lt (suc m * up e) (2 ^ suc (emax f) * down e) in
    eqb→eq (suc m % 2) 1 (and_l odd short (and_l (odd && short) fine (and_l (odd && short && fine) small t)))

two_up : (p : ℕ) → 0 < p → 2 * p ≢ 1
two_up p h e = omega arith

zero_exponent : (f : Format) (s : Bool) (e : ℤ) → T (fits f (fin s zero e)) → e ≡ pos 0
unfolding fits
zero_exponent f s e t = flat e (eqb→eq (up e * down e) 1 t)
  where
    flat : (e : ℤ) → up e * down e ≡ 1 → e ≡ pos 0
    flat (pos zero) h = refl
    flat (pos (suc k)) h = absurd (two_up (2 ^ k) (pow_pos k) (sym (pow-succ' 2 k) ∙ sym (mul-one (2 ^ suc k)) ∙ h))
    flat (negsuc k) h = absurd (two_up (2 ^ k) (pow_pos k) (sym (pow-succ' 2 k) ∙ sym (one-mul (2 ^ suc k)) ∙ h))

moved : (m u c d : ℕ) → m * (u * d) * c ≡ m * u * c * d
moved m u c d = ap (λ (x : ℕ). x * c) (sym (mul_assoc m u d)) ∙ mul_right_comm (m * u) d c

-- what two fractions of one value are over each other
crossed : (a c m n : ℕ) (e g : ℤ) → 0 < c → m * up e * c ≡ a * down e → n * up g * c ≡ a * down g
    → m * (up e * down g) ≡ n * (up g * down e)
crossed a c m n e g p v w =
    eq_of_mul-eq-mul_right c p (m * (up e * down g)) (n * (up g * down e))
    (moved m (up e) c (down g) ∙ ap (λ (x : ℕ). x * down g) v ∙ mul_right_comm a (down e) (down g) ∙ ap (λ (x : ℕ). x * down e) (sym w) ∙ sym (moved n (up g) c (down e)))

some : (m : ℕ) (e g : ℤ) → 0 < suc m * (up e * down g)
some m e g = mul-pos (zero-lt-suc m) (mul-pos (up_pos e) (down_pos g))

nothing : (k x : ℕ) → 0 < x → 0 * k ≢ x
nothing k x p q = lt_irrefl 0 (subst (λ (y : ℕ). 0 < y) (sym q ∙ zero-mul k) p)

value_unique : (f : Format) (x y : Float) (s : Bool) (a c : ℕ) → 0 < c → T (fits f x) → T (fits f y) → HasValue x s a c
    → HasValue y s a c → x ≡ y
value_unique f nan y s a c p F G v w = absurd v
value_unique f (inf t) y s a c p F G v w = absurd v
value_unique f (fin t m e) nan s a c p F G v w = absurd w
value_unique f (fin t m e) (inf u) s a c p F G v w = absurd w
value_unique f (fin t zero e) (fin u zero g) s a c p F G v w =
    λ i. fin ((v.0 ∙ sym w.0) i) zero ((zero_exponent f t e F ∙ sym (zero_exponent f u g G)) i)
value_unique f (fin t zero e) (fin u (suc n) g) s a c p F G v w =
    absurd (nothing (up e * down g) _ (some n g e) (crossed a c 0 (suc n) e g p v.1 w.1))
value_unique f (fin t (suc m) e) (fin u zero g) s a c p F G v w =
    absurd (nothing (up g * down e) _ (some m e g) (sym (crossed a c (suc m) 0 e g p v.1 w.1)))
value_unique f (fin t (suc m) e) (fin u (suc n) g) s a c p F G v w =
    let k = apart e g in
    let q = ap (λ (x : ℕ). suc m * x) (sym k.over) ∙ crossed a c (suc m) (suc n) e g p v.1 w.1 ∙ ap (λ (x : ℕ). suc n * x) k.under in
    let r = odd_pow (suc m) (suc n) k.i k.j (is_odd f t m e F) (is_odd f u n g G) q in
    λ i. fin ((v.0 ∙ sym w.0) i) (r.0 i) (k.same r.1 i)

-- a double is its own rounding
pub round_own : (f : Format) (s : Bool) (m : ℕ) (e : ℤ) → T (fits f (fin s m e)) → round f s (m * up e) (down e) ≡ fin s m e
round_own f s m e F =
    value_unique f (round f s (m * up e) (down e)) (fin s m e) s (m * up e) (down e) (down_pos e)
    (round-fits f s (m * up e) (down e)) F (own_value f s m e F) (refl, refl)

-- and of any fraction of its value
pub round_value : (r : Float) (s : Bool) (a c : ℕ) → 0 < c → T (fits binary64 r) → HasValue r s a c → round binary64 s a c ≡ r
round_value nan s a c p F h = absurd h
round_value (inf t) s a c p F h = absurd h
round_value (fin t m e) s a c p F h =
    round_same binary64 s a c (m * up e) (down e) p (down_pos e) (sym h.1)
    ∙ ap (λ (u : Bool). round binary64 u (m * up e) (down e)) (sym h.0)
    ∙ round_own binary64 t m e F

-- so over one it is itself
pub over_one : (x : Float) → T (fits binary64 x) → x ⊘ operations.one ≡ x
unfolding div of_bits
over_one nan F = refl
over_one (inf true) F = refl
over_one (inf false) F = refl
over_one (fin true m e) F = simp (mul-one, one-mul) (round_own binary64 true m e F)
over_one (fin false m e) F = simp (mul-one, one-mul) (round_own binary64 false m e F)

-- what lies from a double to itself is that double
pub squeezed : (c x : Float) → T (fits binary64 c) → T (fits binary64 x) → Plus c → Plus x → Between c c x → x ≡ c
unfolding is_finite
squeezed nan x F G p q i = absurd p
squeezed (inf s) x F G p q i = absurd i.start
squeezed (fin true n d) x F G p q i = absurd p
squeezed (fin false n d) nan F G p q i = absurd q
squeezed (fin false n d) (inf t) F G p q i = absurd i.finite
squeezed (fin false n d) (fin true m e) F G p q i = absurd q
squeezed (fin false n d) (fin false m e) F G p q i =
    let c = fin false n d in
    let x = fin false m e in
    value_unique binary64 x c false (n * up d) (down d) (down_pos d) G F
    (refl, level (m * up e * down d) (n * up d * down e) (down d) (down e) (le→below x c tt tt i.to) (le→below c x tt tt i.from))
    (refl, refl)
  where
    level : (a b u v : ℕ) → a + 0 * v ≤ b + 0 * u → b + 0 * u ≤ a + 0 * v → a ≡ b
    level a b u v h k = omega arith

-- ---- zero less a double

-- zero less what bears a minus sign
minus_from_zero : (m : ℕ) (e : ℤ) → T (fits binary64 (fin true m e)) → operations.zero ⊖ fin true m e ≡ fin false m e
unfolding sub add sum neg of_bits fits
minus_from_zero m e F = simp (zero-mul, zero-add, mul-one, one-mul) (round_own binary64 false m e F)

-- zero less what bears none, and is not zero
plus_from_zero : (m : ℕ) (e : ℤ) → T (fits binary64 (fin false (suc m) e)) → operations.zero ⊖ fin false (suc m) e ≡ fin true (suc m) e
unfolding sub add sum neg of_bits fits
plus_from_zero m e F =
    simp (zero-mul, mul-one, one-mul, sub-zero)
    (rw (lt-ltb 0 (suc m * up e) (mul-pos (zero-lt-suc m) (up_pos e))) (round_own binary64 true (suc m) e F))

-- what code does for a size: the larger of a double and zero less it
pub size_larger : (x : Float) → T (fits binary64 x) → cond (lt (operations.zero ⊖ x) x) x (operations.zero ⊖ x) ≡ size x
unfolding sub add sum neg lt of_bits size fits
size_larger nan F = refl
size_larger (inf true) F = refl
size_larger (inf false) F = refl
size_larger (fin true m e) F = rw (minus_from_zero m e F)
size_larger (fin false zero e) F = rw (zero_exponent binary64 false e F)
size_larger (fin false (suc m) e) F =
    let c = suc m * up e * down e in
    let above : 0 < c = mul-pos (mul-pos (zero-lt-suc m) (up_pos e)) (down_pos e) in
    rw (plus_from_zero m e F, lt-ltb 0 (c + c) (omega (arith, above)))
