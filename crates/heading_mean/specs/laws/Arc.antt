-- Sums and differences as exact counts: each rounding moves a double of this size by no more than 2^−21.
use Rattle.std.specs.Prelude.{◌≡◌, refl, ◌⊎◌, Bool, true, false, cond, ℕ, ◌+◌, ◌-◌, ◌*◌, ◌/◌, ◌%◌, ◌≤◌, ◌<◌, T, Float}
use Rattle.std.proofs.Common.{sym, ap, subst, ◌∙◌, inl, inr, mul-pos, mul-le-mul_right, le_of_mul-le-mul_right, div-add-mod', mod-lt, arith, lit≤, pow_pos}
use Rattle.std.specs.Float.{nan, inf, fin, Format, binary64}
use Rattle.std.specs.Float.Ieee.{neg, fits, round, of_bits, down}
use Rattle.std.specs.Float.Ieee.Scale.{round_same}
use Rattle.std.specs.Float.Ieee.Positive.{den, den_pos}
use Rattle.double.specs.rules.Operations as operations
use Rattle.double.specs.rules.Operations.{◌⊕◌, ◌⊖◌}
use Rattle.double.specs.rules.Sign.{is_finite, bears_minus}
use Rattle.double.specs.rules.Order.{◌≼◌, Finite}
use Rattle.double.specs.rules.Count.{count}
use Rattle.double.specs.notions.Fraction.{plus_part, minus_part, Signed, Rounds}
use Rattle.double.specs.laws.Numbers.{less_or_not}
use Rattle.double.specs.laws.Rounding.{round_neg}
use Rattle.double.specs.laws.Order.{le→below}
use Rattle.double.specs.laws.Fraction.{add_rounds, sub_rounds}
use Rattle.double.specs.laws.Grid.{grid_under, grid_over, under_grid, over_grid}
use Rattle.double.specs.laws.Count.{count_exact}
use Rattle.helpers.specs.rules.Angle.{turn_in_degrees}
use Rattle.heading_mean.specs.notions.Arc.{unit, over, under, Counted, Near, Around}

pub unit_pos : 0 < unit
unfolding unit
unit_pos = pow_pos 1074

-- ---- a double by its counts

none : (u d : ℕ) → 0 * u ≡ 0 * d
none u d = omega arith

pub counted : (x : Float) → T (fits binary64 x) → Finite x → Counted x (over x) (under x)
unfolding is_finite bears_minus unit
counted nan F p = absurd p
counted (inf s) F p = absurd p
counted (fin true m e) F p = record { finite = tt; plus = none unit (down e); minus = (count_exact (fin true m e) F refl).1 }
counted (fin false m e) F p = record { finite = tt; plus = (count_exact (fin false m e) F refl).1; minus = none unit (down e) }

-- order
ordered : (px nx py ny Px Nx Py Ny dx dy U : ℕ) → 0 < dx → 0 < dy → Px * U ≡ px * dx → Nx * U ≡ nx * dx → Py * U ≡ py * dy → Ny * U ≡ ny * dy
    → Px * dy + Ny * dx ≤ Py * dx + Nx * dy → px + ny ≤ py + nx
ordered px nx py ny Px Nx Py Ny dx dy U X Y a b c d h =
    le_of_mul-le-mul_right {m = px + ny} {n = py + nx} {k = dx * dy}
    (omega (
      arith,
      mul-le-mul_right {m = Px * dy + Ny * dx} {n = Py * dx + Nx * dy} U h,
      ap (λ (z : ℕ). z * dy) a,
      ap (λ (z : ℕ). z * dy) b,
      ap (λ (z : ℕ). z * dx) c,
      ap (λ (z : ℕ). z * dx) d,
    ))
    (mul-pos X Y)

pub counts_order : {x y : Float} {px nx py ny : ℕ} → Counted x px nx → Counted y py ny → x ≼ y → px + ny ≤ py + nx
counts_order {x} {y} {px} {nx} {py} {ny} a b h =
    ordered px nx py ny (plus_part x) (minus_part x) (plus_part y) (minus_part y) (den x) (den y) unit (den_pos x) (den_pos y) a.plus a.minus b.plus b.minus
    (le→below x y a.finite b.finite h)

-- ---- a rounding over the unit

same_value : (f : Format) (z : Float) (P N D p n U : ℕ) → 0 < D → 0 < U → P * U ≡ p * D → N * U ≡ n * D → Rounds f z P N D → Rounds f z p n U
same_value f z P N D p n U D0 U0 a b r = by_sign r.sign r.top r.is r.value
  where
    by_sign : (s : Bool) (top : ℕ) → z ≡ round f s top D → Signed s P N top → Rounds f z p n U
    by_sign false top e v =
        let le : n ≤ p = le_of_mul-le-mul_right {m = n} {n = p} {k = D} (omega (arith, a, b, ap (λ (k : ℕ). k * U) v)) D0 in
        let k : p ≡ n + (p - n) = omega arith in
        record {
          sign = false;
          top = p - n;
          is = e ∙ round_same f false top D (p - n) U D0 U0 (omega (arith, a, b, ap (λ (k : ℕ). k * U) v, ap (λ (x : ℕ). x * D) k));
          value = k;
        }
    by_sign true top e v =
        let le : p ≤ n = le_of_mul-le-mul_right {m = p} {n = n} {k = D} (omega (arith, a, b, ap (λ (k : ℕ). k * U) v)) D0 in
        let k : p + (n - p) ≡ n = omega arith in
        record {
          sign = true;
          top = n - p;
          is = e ∙ round_same f true top D (n - p) U D0 U0 (omega (arith, a, b, ap (λ (k : ℕ). k * U) v, ap (λ (x : ℕ). x * D) k));
          value = k;
        }

pub neg_rounds : {f : Format} {z : Float} {p n d : ℕ} → Rounds f z p n d → Rounds f (neg z) n p d
neg_rounds {f} {z} {p} {n} {d} r = by_sign r.sign r.top r.is r.value
  where
    by_sign : (s : Bool) (top : ℕ) → z ≡ round f s top d → Signed s p n top → Rounds f (neg z) n p d
    by_sign false top e v = record { sign = true; top = top; is = ap neg e ∙ sym (round_neg f false top d); value = omega arith }
    by_sign true top e v = record { sign = false; top = top; is = ap neg e ∙ sym (round_neg f true top d); value = omega arith }

pub neg_counted : (x : Float) (p n : ℕ) → Counted x p n → Counted (neg x) n p
unfolding neg is_finite
neg_counted nan p n c = absurd c.finite
neg_counted (inf s) p n c = absurd c.finite
neg_counted (fin true m e) p n c = record { finite = tt; plus = c.minus; minus = c.plus }
neg_counted (fin false m e) p n c = record { finite = tt; plus = c.minus; minus = c.plus }

-- ---- it moves a double by 2^−21 at most

cancelled : (k p n P N d U : ℕ) → 0 < d → P * U ≡ p * d → N * U ≡ n * d → k * d + N * 2097152 ≤ P * 2097152 → k * U + n * 2097152 ≤ p * 2097152
cancelled k p n P N d U D a b h =
    le_of_mul-le-mul_right {m = k * U + n * 2097152} {n = p * 2097152} {k = d} (omega (arith, a, b, mul-le-mul_right {m = k * d + N * 2097152} {n = P * 2097152} U h)) D

pub cancelled_back : (k p n P N d U : ℕ) → 0 < d → P * U ≡ p * d → N * U ≡ n * d → P * 2097152 ≤ k * d + N * 2097152 → p * 2097152 ≤ k * U + n * 2097152
cancelled_back k p n P N d U D a b h =
    le_of_mul-le-mul_right {m = p * 2097152} {n = k * U + n * 2097152} {k = d} (omega (arith, a, b, mul-le-mul_right {m = P * 2097152} {n = k * d + N * 2097152} U h)) D

-- from zero up
near_above : (z : Float) (p n P N : ℕ) → Counted z p n → Rounds binary64 z P N unit → N ≤ P → P ≤ N + 1024 * unit → Near p n P N
near_above z p n P N c r low high =
    let v = P - N in
    let k = v * 2097152 / unit in
    let rest = v * 2097152 % unit in
    let whole : k * unit + rest ≡ v * 2097152 = div-add-mod' (v * 2097152) unit in
    let part : rest < unit = mod-lt (v * 2097152) unit_pos in
    let small : k ≤ 2147483648 = few k rest v (omega arith) whole in
    let a = under_grid binary64 20 k z (omega arith) (lit≤ tt) c.finite (grid_under binary64 20 k z P N unit unit_pos r (omega arith)) in
    let b = over_grid binary64 20 (k + 1) z (omega arith) (lit≤ tt) c.finite (grid_over binary64 20 (k + 1) z P N unit unit_pos r (omega arith)) in
    let x = cancelled k p n (plus_part z) (minus_part z) (den z) unit (den_pos z) c.plus c.minus (omega (arith, a)) in
    let y = cancelled_back (k + 1) p n (plus_part z) (minus_part z) (den z) unit (den_pos z) c.plus c.minus (omega (arith, b)) in
    record { from = omega arith; to = omega arith }
  where
    few : (k rest v : ℕ) → v ≤ 1024 * unit → k * unit + rest ≡ v * 2097152 → k ≤ 2147483648
    few k rest v h e = le_of_mul-le-mul_right {m = k} {n = 2147483648} {k = unit} (omega arith) unit_pos

pub near : (z : Float) (p n P N : ℕ) → Counted z p n → Rounds binary64 z P N unit → P ≤ N + 1024 * unit → N ≤ P + 1024 * unit → Near p n P N
near z p n P N c r h k = by_order (less_or_not P N)
  where
    by_order : (P < N) ⊎ (N ≤ P) → Near p n P N
    by_order (inl l) =
        let m = near_above (neg z) n p N P (neg_counted z p n c) (neg_rounds r) (omega arith) k in
        record { from = omega (arith, m.to); to = omega (arith, m.from) }
    by_order (inr l) = near_above z p n P N c r l h

-- ---- of a sum and a difference

module _ {x y : Float} {px nx py ny : ℕ} (a : Counted x px nx) (b : Counted y py ny) where
  scaled : (A B C D u v dx dy U : ℕ) → A * U ≡ u * dx → B * U ≡ v * dy → (A * dy + B * dx) * U ≡ (u + v) * (dx * dy)
  scaled A B C D u v dx dy U p q = omega (arith, ap (λ (z : ℕ). z * dy) p, ap (λ (z : ℕ). z * dx) q)

  pub sum_near : (p n : ℕ) → Counted (x ⊕ y) p n → px + py ≤ nx + ny + 1024 * unit → nx + ny ≤ px + py + 1024 * unit → Near p n (px + py) (nx + ny)
  sum_near p n c h k =
      near (x ⊕ y) p n (px + py) (nx + ny) c
      (same_value binary64 (x ⊕ y) (plus_part x * den y + plus_part y * den x) (minus_part x * den y + minus_part y * den x) (den x * den y) (px + py) (nx + ny) unit
      (mul-pos (den_pos x) (den_pos y)) unit_pos
      (scaled (plus_part x) (plus_part y) 0 0 px py (den x) (den y) unit a.plus b.plus)
      (scaled (minus_part x) (minus_part y) 0 0 nx ny (den x) (den y) unit a.minus b.minus)
      (add_rounds binary64 x y a.finite b.finite))
      h k

  pub difference_near : (p n : ℕ) → Counted (x ⊖ y) p n → px + ny ≤ nx + py + 1024 * unit → nx + py ≤ px + ny + 1024 * unit → Near p n (px + ny) (nx + py)
  difference_near p n c h k =
      near (x ⊖ y) p n (px + ny) (nx + py) c
      (same_value binary64 (x ⊖ y) (plus_part x * den y + minus_part y * den x) (minus_part x * den y + plus_part y * den x) (den x * den y) (px + ny) (nx + py) unit
      (mul-pos (den_pos x) (den_pos y)) unit_pos
      (scaled (plus_part x) (minus_part y) 0 0 px ny (den x) (den y) unit a.plus b.minus)
      (scaled (minus_part x) (plus_part y) 0 0 nx py (den x) (den y) unit a.minus b.plus)
      (sub_rounds binary64 x y a.finite b.finite))
      h k

-- ---- the circle

pub around_longer : (t e f a b : ℕ) → e ≤ f → Around t e a b → Around t f a b
around_longer t e f a b h (inl p) = inl (omega (arith, p.0), omega (arith, p.1))
around_longer t e f a b h (inr (inl p)) = inr (inl (omega arith))
around_longer t e f a b h (inr (inr p)) = inr (inr (omega arith))

pub around_turned : (t e a b : ℕ) → Around t e a b → Around t e b a
around_turned t e a b (inl p) = inl (p.1, p.0)
around_turned t e a b (inr (inl p)) = inr (inr p)
around_turned t e a b (inr (inr p)) = inr (inl p)

-- two arcs end to end
pub around_added : (t e f a b c : ℕ) → a ≤ t → b ≤ t → c ≤ t → Around t e a b → Around t f b c → Around t (e + f) a c
around_added t e f a b c A B C (inl p) (inl q) = inl (omega (arith, p.0, q.0), omega (arith, p.1, q.1))
around_added t e f a b c A B C (inl p) (inr (inl q)) = inr (inl (omega (arith, p.0, q)))
around_added t e f a b c A B C (inl p) (inr (inr q)) = inr (inr (omega (arith, p.1, q)))
around_added t e f a b c A B C (inr (inl p)) (inl q) = inr (inl (omega (arith, p, q.0)))
around_added t e f a b c A B C (inr (inl p)) (inr (inl q)) = inl (omega arith, omega arith)
around_added t e f a b c A B C (inr (inl p)) (inr (inr q)) = inl (omega arith, omega arith)
around_added t e f a b c A B C (inr (inr p)) (inl q) = inr (inr (omega (arith, p, q.1)))
around_added t e f a b c A B C (inr (inr p)) (inr (inl q)) = inl (omega arith, omega arith)
around_added t e f a b c A B C (inr (inr p)) (inr (inr q)) = inl (omega arith, omega arith)

-- ---- stated doubles, and headings

pub zero_counted : Counted operations.zero 0 0
unfolding is_finite of_bits
zero_counted = record { finite = tt; plus = none unit (den operations.zero); minus = none unit (den operations.zero) }

pub turn_counted : Counted turn_in_degrees (360 * unit) 0
unfolding is_finite of_bits
turn_counted = record { finite = tt; plus = omega arith; minus = none unit (den turn_in_degrees) }

pub turn_count : count turn_in_degrees ≡ 360 * unit
unfolding count unit of_bits
turn_count = refl

-- what is not below zero has no count there
pub none_under : (x : Float) → T (fits binary64 x) → Finite x → operations.zero ≼ x → (over x ≡ count x) × (under x ≡ 0)
none_under x F p h = by_sign (bears_minus x) (counts_order zero_counted (counted x F p) h)
  where
    by_sign : (s : Bool) → 0 + cond s (count x) 0 ≤ cond s 0 (count x) + 0 → (cond s 0 (count x) ≡ count x) × (cond s (count x) 0 ≡ 0)
    by_sign true h = (omega arith, omega arith)
    by_sign false h = (refl, refl)

pub heading_counted : (x : Float) → T (fits binary64 x) → Finite x → operations.zero ≼ x → Counted x (count x) 0
heading_counted x F p h =
    let n = none_under x F p h in
    subst (λ (k : ℕ). Counted x k 0) n.0 (subst (λ (k : ℕ). Counted x (over x) k) n.1 (counted x F p))
