-- Doubles between two others, and sizes up to a limit.
use Rattle.std.specs.Prelude.{◌≡◌, ℕ, ◌*◌, ◌<◌, true, false, ◌&&◌, T, ◌⊎◌, pos, ◌≢◌, nat_eq, Float}
use Rattle.std.proofs.Common.{subst, inl, inr, arith, mul-pos, eqb→eq, ltb→lt}
use Rattle.std.proofs.Math.Dec.{not_T}
use Rattle.std.specs.Float.Ieee.Fits.{and_l, up_pos}
use Rattle.std.specs.Float.{nan, inf, fin}
use Rattle.std.specs.Float.Ieee.{up, down, neg, eq, le, of_bits}
use Rattle.std.specs.Float.Ieee.Positive.{positive, above, above_of_le}
use Rattle.double.specs.rules.Operations.{one, zero}
use Rattle.double.specs.rules.Sign.{is_finite, size}
use Rattle.double.specs.rules.Order.{◌≼◌, NonZero, Finite, Plus, Between}
use Rattle.double.specs.laws.Sign.{neg_neg, finite_neg, finite_size, plus_size}
use Rattle.double.specs.laws.Order.{below→le, le_refl, le_trans, le_total, neg_le, minus_le_plus}

-- ---- between two

finite_between : (a z b : Float) → Finite a → Finite b → a ≼ z → z ≼ b → Finite z
unfolding le is_finite
finite_between nan z b p q h k = absurd p
finite_between (inf s) z b p q h k = absurd p
finite_between (fin s m e) z nan p q h k = absurd q
finite_between (fin s m e) z (inf t) p q h k = absurd q
finite_between (fin s m e) nan (fin t n d) p q h k = absurd k
finite_between (fin s m e) (inf true) (fin t n d) p q h k = absurd h
finite_between (fin s m e) (inf false) (fin t n d) p q h k = absurd k
finite_between (fin s m e) (fin u i c) (fin t n d) p q h k = tt

-- what lies between finite doubles is finite
pub between : {a b z : Float} → Finite a → Finite b → a ≼ z → z ≼ b → Between a b z
between {a} {b} {z} p q h k =
    record { start = p; end = q; finite = finite_between a z b p q h k; from = h; to = k }

pub between_itself : {c : Float} → Finite c → Between c c c
between_itself {c} p = between p p (le_refl c p) (le_refl c p)

pub between_wider : {a b c d z : Float} → Finite a → Finite d → a ≼ b → c ≼ d → Between b c z → Between a d z
between_wider {a} {b} {c} {d} {z} p q h k i = between p q (le_trans a b z h i.from) (le_trans z c d i.to k)

-- to one side of c or to the other
pub between_cut : {a b z : Float} (c : Float) → Finite c → Between a b z → Between a c z ⊎ Between c b z
between_cut {z = z} c p i =
    elim (le_total z c i.finite p) [ inl h ↦ inl (between i.start p i.from h) | inr h ↦ inr (between p i.end h i.to) ]

finite_negated : (x : Float) → Finite x → Finite (neg x)
finite_negated x p = rw (finite_neg x) p

pub between_neg : {a b z : Float} → Between a b z → Between (neg b) (neg a) (neg z)
between_neg {a} {b} {z} i =
    between (finite_negated b i.end) (finite_negated a i.start) (neg_le z b i.to) (neg_le a z i.from)

-- ---- no minus sign is from zero on

pub zero_le_plus : (x : Float) → Finite x → Plus x → zero ≼ x
unfolding of_bits is_finite
zero_le_plus nan p q = absurd p
zero_le_plus (inf s) p q = absurd p
zero_le_plus (fin true m e) p q = absurd q
zero_le_plus (fin false m e) p q = below→le (fin false 0 (pos 0)) (fin false m e) tt tt (omega arith)

pub finite_of_plus : (x most : Float) → Plus x → Finite most → x ≼ most → Finite x
unfolding le is_finite
finite_of_plus nan most p q h = absurd p
finite_of_plus (inf true) most p q h = absurd p
finite_of_plus (inf false) nan p q h = absurd q
finite_of_plus (inf false) (inf t) p q h = absurd q
finite_of_plus (inf false) (fin t n d) p q h = absurd h
finite_of_plus (fin s m e) most p q h = tt

-- ---- what is no less than a number above zero bears a plus sign, and is no zero

pub plus_of_positive : (c x : Float) → T (positive c) → c ≼ x → Plus x
plus_of_positive c x p h = of-above x (above_of_le c x p h)
  where
    of-above : (x : Float) → T (above x) → Plus x
    of-above nan t = absurd t
    of-above (inf s) t = t
    of-above (fin true m e) t = absurd t
    of-above (fin false m e) t = tt

pub nonzero_of_positive : (c x : Float) → T (positive c) → c ≼ x → NonZero x
nonzero_of_positive c x p h = of-above x (above_of_le c x p h)
  where
    no : (a b : ℕ) → 0 < a → a * 1 ≢ 0 * b
    no a b p z = omega arith

    of-above : (x : Float) → T (above x) → NonZero x
    of-above nan t = absurd t
    of-above (inf s) t = unfold eq of_bits in tt
    of-above (fin true m e) t = absurd t
    of-above (fin false m e) t =
        unfold eq of_bits in
        let z = nat_eq (m * up e * 1) (0 * down e) in
        not_T (z && true)
        (λ (t' : T (z && true)). no (m * up e) (down e) (mul-pos (ltb→lt 0 m t) (up_pos e)) (eqb→eq (m * up e * 1) (0 * down e) (and_l z true t')))

-- ---- 0.0 and 1.0 are finite

pub finite_zero : Finite zero
unfolding is_finite of_bits
finite_zero = tt

pub finite_one : Finite one
unfolding is_finite of_bits
finite_one = tt

-- ---- sizes up to a limit

-- what is in size at most a finite double is finite
pub finite_of_size : (x most : Float) → Finite most → size x ≼ most → Finite x
unfolding le size is_finite
finite_of_size nan most p h = absurd h
finite_of_size (inf s) nan p h = absurd p
finite_of_size (inf s) (inf t) p h = absurd p
finite_of_size (inf s) (fin t n d) p h = absurd h
finite_of_size (fin s m e) most p h = tt

pub size_between : (x most : Float) → Finite most → size x ≼ most → Between zero most (size x)
size_between x most p h =
    let F = finite_of_size x most p h in
    between finite_zero p (zero_le_plus (size x) (rw (finite_size x) F) (plus_size x F)) h

-- a size at most b is the place between −b and b
pub between→size : (b x : Float) → Between (neg b) b x → size x ≼ b
unfolding size is_finite neg
between→size b nan i = absurd i.finite
between→size b (inf s) i = absurd i.finite
between→size b (fin false m e) i = i.to
between→size b (fin true m e) i = subst (λ (c : Float). fin false m e ≼ c) (neg_neg b) (neg_le (neg b) (fin true m e) i.from)

pub size→between : (b x : Float) → Finite b → size x ≼ b → Between (neg b) b x
unfolding size is_finite neg
size→between b nan p h = absurd (le-nan b h)
  where
    le-nan : (b : Float) → nan ≼ b → ⊥
    le-nan b h = unfold le in h
size→between b (inf s) p h = absurd (finite_of_size (inf s) b p (unfold size in h))
size→between b (fin false m e) p h =
    between (finite_negated b p) p
    (le_trans (neg b) (fin true m e) (fin false m e) (neg_le (fin false m e) b h) (minus_le_plus (fin false m e) (fin false m e) tt tt)) h
size→between b (fin true m e) p h =
    between (finite_negated b p) p (neg_le (fin false m e) b h)
    (le_trans (fin true m e) (fin false m e) b (minus_le_plus (fin false m e) (fin false m e) tt tt) h)
