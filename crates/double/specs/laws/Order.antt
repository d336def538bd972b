-- The order of doubles, of both signs.
use Rattle.std.specs.Prelude.{◌≡◌, ℕ, ◌+◌, ◌*◌, ◌<◌, ◌≤◌, Bool, true, false, not, ◌&&◌, ◌||◌, T, ◌⊎◌, ◌==◌, nat_le, nat_lt, refl, Float}
use Rattle.std.proofs.Common.{sym, inl, inr, le_of_eq, mul-le-mul_right, le_of_mul-le-mul_right, not-le_of_lt, arith, leb→le, ltb→lt, nltb→le, eqb→eq, T_not}
use Rattle.std.proofs.Math.Nat as Nat
use Rattle.std.proofs.Math.Dec.{nleb→lt, not_T}
use Rattle.std.specs.Float.{nan, inf, fin}
use Rattle.std.specs.Float.Ieee.{up, down, neg, eq, le, lt}
use Rattle.std.specs.Float.Ieee.Fits.{and_l, and_r, and_i, eq→eqb}
use Rattle.std.specs.Float.Ieee.Bits.{is_true}
use Rattle.std.specs.Float.Ieee.Positive.{den, den_pos}
use Rattle.double.specs.rules.Sign.{is_finite}
use Rattle.double.specs.rules.Order.{◌≼◌, Finite, Plus}
use Rattle.double.specs.notions.Fraction.{plus_part, minus_part, Below}

-- ---- the test that `le` makes, for each pair of signs

or_cases : (a b : Bool) → T (a || b) → T a ⊎ T b
or_cases true b t = inl tt
or_cases false b t = inr t

same : (a b : ℕ) → a ≤ b → b ≤ a → a ≡ b
same a b p q = omega arith

le_of : (a b : ℕ) → T (nat_lt a b || (a == b && true)) → a ≤ b
le_of a b t = elim (or_cases (nat_lt a b) (a == b && true) t) [ inl u ↦ Nat.le_of_lt (ltb→lt a b u) | inr u ↦ le_of_eq (eqb→eq a b (and_l (a == b) true u)) ]

of_le : (a b : ℕ) → a ≤ b → T (nat_lt a b || (a == b && true))
of_le a b h = go (nat_lt a b) (nltb→le a b)
  where
    go : (t : Bool) → (T (not t) → b ≤ a) → T (t || (a == b && true))
    go true k = tt
    go false k = and_i (a == b) true (eq→eqb (same a b h (k tt))) tt

ge_of : (a b : ℕ) → T (nat_lt b a || (a == b && true)) → b ≤ a
ge_of a b t = elim (or_cases (nat_lt b a) (a == b && true) t) [ inl u ↦ Nat.le_of_lt (ltb→lt b a u) | inr u ↦ le_of_eq (sym (eqb→eq a b (and_l (a == b) true u))) ]

of_ge : (a b : ℕ) → b ≤ a → T (nat_lt b a || (a == b && true))
of_ge a b h = go (nat_lt b a) (nltb→le b a)
  where
    go : (t : Bool) → (T (not t) → a ≤ b) → T (t || (a == b && true))
    go true k = tt
    go false k = and_i (a == b) true (eq→eqb (same a b (k tt) h)) tt

none_of : (a b : ℕ) → T (a == b && (false || a == 0)) → a + b ≤ 0
none_of a b t = zero-sum a b (eqb→eq a b (and_l (a == b) (a == 0) t)) (eqb→eq a 0 (and_r (a == b) (a == 0) t))
  where
    zero-sum : (a b : ℕ) → a ≡ b → a ≡ 0 → a + b ≤ 0
    zero-sum a b p q = omega arith

of_none : (a b : ℕ) → a + b ≤ 0 → T (a == b && (false || a == 0))
of_none a b h = and_i (a == b) (a == 0) (eq→eqb (alike a b h)) (eq→eqb (none a b h))
  where
    alike : (a b : ℕ) → a + b ≤ 0 → a ≡ b
    alike a b h = omega arith

    none : (a b : ℕ) → a + b ≤ 0 → a ≡ 0
    none a b h = omega arith

across : (a b : ℕ) → T (nat_lt 0 (a + b) || (a == b && (false || a == 0)))
across a b = go (nat_lt 0 (a + b)) (nltb→le 0 (a + b))
  where
    go : (t : Bool) → (T (not t) → a + b ≤ 0) → T (t || (a == b && (false || a == 0)))
    go true k = tt
    go false k = of_none a b (k tt)

swapped : (a b : ℕ) → a + b ≤ 0 → b + a ≤ 0
swapped a b h = omega arith

-- ---- so the order is that of the fractions

pub le→below : (x y : Float) → Finite x → Finite y → x ≼ y → Below x y
unfolding le is_finite
le→below nan y p q h = absurd p
le→below (inf s) y p q h = absurd p
le→below (fin s m e) nan p q h = absurd q
le→below (fin s m e) (inf t) p q h = absurd q
le→below (fin false m e) (fin false n d) p q h = omega (arith, le_of (m * up e * down d) (n * up d * down e) h)
le→below (fin false m e) (fin true n d) p q h = omega (arith, none_of (m * up e * down d) (n * up d * down e) h)
le→below (fin true m e) (fin false n d) p q h = omega arith
le→below (fin true m e) (fin true n d) p q h = omega (arith, ge_of (m * up e * down d) (n * up d * down e) h)

pub below→le : (x y : Float) → Finite x → Finite y → Below x y → x ≼ y
unfolding le is_finite
below→le nan y p q h = absurd p
below→le (inf s) y p q h = absurd p
below→le (fin s m e) nan p q h = absurd q
below→le (fin s m e) (inf t) p q h = absurd q
below→le (fin false m e) (fin false n d) p q h = of_le (m * up e * down d) (n * up d * down e) (omega arith)
below→le (fin false m e) (fin true n d) p q h = of_none (m * up e * down d) (n * up d * down e) (omega arith)
below→le (fin true m e) (fin false n d) p q h = across (m * up e * down d) (n * up d * down e)
below→le (fin true m e) (fin true n d) p q h = of_ge (m * up e * down d) (n * up d * down e) (omega arith)

-- ---- ≼ is an order

pub le_refl : (x : Float) → Finite x → x ≼ x
le_refl x p = below→le x x p p (le_of_eq refl)

chain : (px nx dx py ny dy pz nz dz : ℕ) → 0 < dy → px * dy + ny * dx ≤ py * dx + nx * dy
    → py * dz + nz * dy ≤ pz * dy + ny * dz → px * dz + nz * dx ≤ pz * dx + nx * dz
chain px nx dx py ny dy pz nz dz D h k =
    le_of_mul-le-mul_right (step (mul-le-mul_right dz h) (mul-le-mul_right dx k)) D
  where
    step : (px * dy + ny * dx) * dz ≤ (py * dx + nx * dy) * dz → (py * dz + nz * dy) * dx ≤ (pz * dy + ny * dz) * dx
        → (px * dz + nz * dx) * dy ≤ (pz * dx + nx * dz) * dy
    step a b = omega arith

le_trans_finite : (x y z : Float) → Finite x → Finite y → Finite z → x ≼ y → y ≼ z → x ≼ z
le_trans_finite x y z p q r h k =
    below→le x z p r
    (chain (plus_part x) (minus_part x) (den x) (plus_part y) (minus_part y) (den y) (plus_part z) (minus_part z) (den z) (den_pos y)
    (le→below x y p q h) (le→below y z q r k))

-- the least of all but a NaN
least : (z y : Float) → y ≼ z → inf true ≼ z
unfolding le
least nan nan k = absurd k
least nan (inf t) k = absurd k
least nan (fin t n d) k = absurd k
least (inf true) y k = tt
least (inf false) y k = tt
least (fin u i c) y k = tt

-- of infinities too
pub le_trans : (x y z : Float) → x ≼ y → y ≼ z → x ≼ z
unfolding le is_finite
le_trans nan y z h k = absurd h
le_trans (inf true) y z h k = least z y k
le_trans (inf false) nan z h k = absurd h
le_trans (inf false) (inf true) z h k = absurd h
le_trans (inf false) (inf false) z h k = k
le_trans (inf false) (fin t n d) z h k = absurd h
le_trans (fin s m e) nan z h k = absurd h
le_trans (fin s m e) (inf true) z h k = absurd h
le_trans (fin s m e) (inf false) nan h k = absurd k
le_trans (fin s m e) (inf false) (inf true) h k = absurd k
le_trans (fin s m e) (inf false) (inf false) h k = tt
le_trans (fin s m e) (inf false) (fin u i c) h k = absurd k
le_trans (fin s m e) (fin t n d) nan h k = absurd k
le_trans (fin s m e) (fin t n d) (inf true) h k = absurd k
le_trans (fin s m e) (fin t n d) (inf false) h k = tt
le_trans (fin s m e) (fin t n d) (fin u i c) h k = le_trans_finite (fin s m e) (fin t n d) (fin u i c) tt tt tt h k

pub le_total : (x y : Float) → Finite x → Finite y → (x ≼ y) ⊎ (y ≼ x)
le_total x y p q = go (nat_le a b) (leb→le a b) (nleb→lt a b)
  where
    a : ℕ
    a = plus_part x * den y + minus_part y * den x

    b : ℕ
    b = plus_part y * den x + minus_part x * den y

    go : (t : Bool) → (T t → a ≤ b) → (T (not t) → b < a) → (x ≼ y) ⊎ (y ≼ x)
    go true h k = inl (below→le x y p q (h tt))
    go false h k = inr (below→le y x q p (Nat.le_of_lt (k tt)))

pub le_of_not_le : (x y : Float) → Finite x → Finite y → T (not (le x y)) → y ≼ x
le_of_not_le x y p q h = elim (le_total x y p q) [ inl t ↦ absurd (T_not (le x y) h t) | inr t ↦ t ]

-- ---- the strict order

eq→le : (x y : Float) → Finite x → Finite y → T (eq x y) → y ≼ x
unfolding eq is_finite
eq→le nan y p q h = absurd p
eq→le (inf s) y p q h = absurd p
eq→le (fin s m e) nan p q h = absurd q
eq→le (fin s m e) (inf t) p q h = absurd q
eq→le (fin false m e) (fin false n d) p q h =
    below→le (fin false n d) (fin false m e) tt tt
    (omega (arith, eqb→eq (m * up e * down d) (n * up d * down e) (and_l (m * up e * down d == n * up d * down e) true h)))
eq→le (fin true m e) (fin true n d) p q h =
    below→le (fin true n d) (fin true m e) tt tt
    (omega (arith, eqb→eq (m * up e * down d) (n * up d * down e) (and_l (m * up e * down d == n * up d * down e) true h)))
eq→le (fin false m e) (fin true n d) p q h = below→le (fin true n d) (fin false m e) tt tt (omega arith)
eq→le (fin true m e) (fin false n d) p q h =
    below→le (fin false n d) (fin true m e) tt tt (omega (arith, none_of (m * up e * down d) (n * up d * down e) h))

pub le_of_lt : (x y : Float) → T (lt x y) → x ≼ y
unfolding le
le_of_lt x y h = rw (is_true (lt x y) h) tt

lt_or_le : (x y : Float) → Finite x → Finite y → T (lt x y) ⊎ (y ≼ x)
unfolding le
lt_or_le x y p q =
    elim (le_total x y p q) [
      | inl h ↦ elim (or_cases (lt x y) (eq x y) h) [ inl t ↦ inl t | inr t ↦ inr (eq→le x y p q t) ]
      | inr h ↦ inr h
    ]

pub le_of_not_lt : (x y : Float) → Finite x → Finite y → T (not (lt x y)) → y ≼ x
le_of_not_lt x y p q h = elim (lt_or_le x y p q) [ inl t ↦ absurd (T_not (lt x y) h t) | inr t ↦ t ]

pub lt_of_not_le : (x y : Float) → Finite x → Finite y → T (not (le x y)) → T (lt y x)
lt_of_not_le x y p q h = elim (lt_or_le y x q p) [ inl t ↦ t | inr t ↦ absurd (T_not (le x y) h t) ]

lt→below : (x y : Float) → Finite x → Finite y → T (lt x y)
    → plus_part x * den y + minus_part y * den x < plus_part y * den x + minus_part x * den y
unfolding lt is_finite
lt→below nan y p q h = absurd p
lt→below (inf s) y p q h = absurd p
lt→below (fin s m e) nan p q h = absurd q
lt→below (fin s m e) (inf t) p q h = absurd q
lt→below (fin false m e) (fin false n d) p q h = omega (arith, ltb→lt (m * up e * down d) (n * up d * down e) h)
lt→below (fin false m e) (fin true n d) p q h = absurd h
lt→below (fin true m e) (fin false n d) p q h = omega (arith, ltb→lt 0 (m * up e * down d + n * up d * down e) h)
lt→below (fin true m e) (fin true n d) p q h = omega (arith, ltb→lt (n * up d * down e) (m * up e * down d) h)

pub not_lt_of_le : (x y : Float) → Finite x → Finite y → x ≼ y → T (not (lt y x))
not_lt_of_le x y p q h = not_T (lt y x) (λ (l : T (lt y x)). not-le_of_lt (lt→below y x q p l) (le→below x y p q h))

-- ---- a negation turns the order round, of infinities too

pub neg_le : (x y : Float) → x ≼ y → neg y ≼ neg x
unfolding le neg
neg_le nan y h = absurd h
neg_le (inf s) nan h = absurd h
neg_le (inf true) (inf true) h = tt
neg_le (inf true) (inf false) h = tt
neg_le (inf false) (inf true) h = absurd h
neg_le (inf false) (inf false) h = tt
neg_le (inf true) (fin t n d) h = tt
neg_le (inf false) (fin t n d) h = absurd h
neg_le (fin s m e) nan h = absurd h
neg_le (fin s m e) (inf true) h = absurd h
neg_le (fin s m e) (inf false) h = tt
neg_le (fin false m e) (fin false n d) h = of_ge (n * up d * down e) (m * up e * down d) (le_of (m * up e * down d) (n * up d * down e) h)
neg_le (fin false m e) (fin true n d) h =
    of_none (n * up d * down e) (m * up e * down d)
    (swapped (m * up e * down d) (n * up d * down e) (none_of (m * up e * down d) (n * up d * down e) h))
neg_le (fin true m e) (fin false n d) h = across (n * up d * down e) (m * up e * down d)
neg_le (fin true m e) (fin true n d) h = of_le (n * up d * down e) (m * up e * down d) (ge_of (m * up e * down d) (n * up d * down e) h)

pub minus_le_plus : (x y : Float) → Plus x → Plus y → neg x ≼ y
unfolding le neg
minus_le_plus nan y p q = absurd p
minus_le_plus (inf true) y p q = absurd p
minus_le_plus (inf false) nan p q = absurd q
minus_le_plus (inf false) (inf true) p q = absurd q
minus_le_plus (inf false) (inf false) p q = tt
minus_le_plus (inf false) (fin t n d) p q = tt
minus_le_plus (fin true m e) y p q = absurd p
minus_le_plus (fin false m e) nan p q = absurd q
minus_le_plus (fin false m e) (inf true) p q = absurd q
minus_le_plus (fin false m e) (inf false) p q = tt
minus_le_plus (fin false m e) (fin true n d) p q = absurd q
minus_le_plus (fin false m e) (fin false n d) p q = across (m * up e * down d) (n * up d * down e)
