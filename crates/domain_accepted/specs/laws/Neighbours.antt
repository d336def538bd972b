-- No double lies between the points k / 2^(j + 1) and (k + 1) / 2^(j + 1), where k has 53 digits.
use Rattle.std.specs.Prelude.{◌≡◌, ◌⊎◌, Bool, true, false, ◌&&◌, ℕ, zero, suc, ◌+◌, ◌-◌, ◌*◌, ◌%◌, ◌^◌, ◌≤◌, ◌<◌, T, leb, ltb, eqb, ℤ, pos, negsuc, Float}
use Rattle.std.proofs.Common.{sym, ap, ◌∙◌, inl, inr, mul-one, mul-le-mul_right, lt_of_mul-lt-mul_right, arith, ltb→lt, pow_pos}
use Rattle.std.specs.Float.{nan, inf, fin, binary64}
use Rattle.std.specs.Float.Ieee.{up, down, neg, fits}
use Rattle.std.specs.Float.Ieee.Fits.{and_l, and_r, down_pos}
use Rattle.double.specs.rules.Sign.{is_finite}
use Rattle.double.specs.rules.Order.{◌≼◌, Finite}
use Rattle.double.specs.notions.Fraction.{Rounds}
use Rattle.double.specs.notions.Grid.{grid}
use Rattle.double.specs.laws.Order.{minus_le_plus}
use Rattle.double.specs.laws.Rounding.{round_plus}
use Rattle.double.specs.laws.Exact.{round_own}
use Rattle.double.specs.laws.Grid.{grid_under, grid_over}
use Rattle.double.specs.laws.Numbers.{less_or_not}
use Rattle.root.specs.laws.Midpoint.{multiple, short}

-- what is above k is k + 1 at least: m·2^e is a multiple of the grid's step, or has too few digits
next : (j k m : ℕ) (e : ℤ) → m < 2 ^ 53 → 2 ^ 52 ≤ k → k * down e < m * up e * 2 ^ suc j → suc k * down e ≤ m * up e * 2 ^ suc j
next j k m (pos a) few least h = flat k (m * 2 ^ a * 2 ^ suc j) h
  where
    flat : (k x : ℕ) → k * 1 < x → suc k * 1 ≤ x
    flat k x h = omega arith
next j k m (negsuc a) few least h = go (less_or_not (suc j) (suc a))
  where
    no_room : (x y z : ℕ) → x < y → y < z → z ≤ x → ⊥
    no_room x y z a b c = omega arith

    go : (suc j < suc a) ⊎ (suc a ≤ suc j) → suc k * 2 ^ suc a ≤ m * 1 * 2 ^ suc j
    go (inl s) =
        absurd
        (no_room (k * 2 ^ suc a) (m * 2 ^ suc j) (2 ^ 52 * 2 ^ suc a) (rw (mul-one m) at h) (short m (suc j) (suc a) few s)
        (mul-le-mul_right (2 ^ suc a) least))
    go (inr g) =
        let b = m * 2 ^ (suc j - suc a) in
        let q : m * 1 * 2 ^ suc j ≡ b * 2 ^ suc a = ap (λ (x : ℕ). x * 2 ^ suc j) (mul-one m) ∙ multiple m (suc j) (suc a) g in
        let t : k < b = lt_of_mul-lt-mul_right (2 ^ suc a) (rw q at h) in
        rw q (mul-le-mul_right (2 ^ suc a) t)

few_digits : (s : Bool) (m : ℕ) (e : ℤ) → T (fits binary64 (fin s m e)) → m < 2 ^ 53
unfolding fits
few_digits s zero e t = pow_pos 53
few_digits s (suc m) e t =
    let odd = eqb (suc m % 2) 1 in
    let few = ltb (suc m) (2 ^ 53) in
    let fine = leb (down e) (2 ^ 1074) in
    let small = ltb (suc m * up e) (2 ^ 1024 * down e) in
    ltb→lt (suc m) (2 ^ 53) (and_r odd few (and_l (odd && few) fine (and_l (odd && few && fine) small t)))

pub neighbours : (j k : ℕ) → 2 ^ 52 ≤ k → (x : Float) → T (fits binary64 x) → Finite x
    → (x ≼ grid binary64 j k) ⊎ (grid binary64 j (suc k) ≼ x)
unfolding is_finite neg
neighbours j k least nan F p = absurd p
neighbours j k least (inf s) F p = absurd p
neighbours j k least (fin true m e) F p =
    inl (minus_le_plus (fin false m e) (grid binary64 j k) tt (round_plus binary64 (k * 1) (2 ^ suc j)))
neighbours j k least (fin false m e) F p = go (less_or_not (k * down e) (m * up e * 2 ^ suc j))
  where
    x : Float
    x = fin false m e

    itself : Rounds binary64 x (m * up e) 0 (down e)
    itself = record { sign = false; top = m * up e; is = sym (round_own binary64 false m e F); value = omega arith }

    flat : (a b c : ℕ) → a ≤ b → a + 0 * c ≤ b
    flat a b c h = omega arith

    flat' : (a b c : ℕ) → a ≤ b → a ≤ b + 0 * c
    flat' a b c h = omega arith

    go : (k * down e < m * up e * 2 ^ suc j) ⊎ (m * up e * 2 ^ suc j ≤ k * down e)
        → (x ≼ grid binary64 j k) ⊎ (grid binary64 j (suc k) ≼ x)
    go (inl h) =
        inr
        (grid_under binary64 j (suc k) x (m * up e) 0 (down e) (down_pos e) itself
        (flat (suc k * down e) (m * up e * 2 ^ suc j) (2 ^ suc j) (next j k m e (few_digits false m e F) least h)))
    go (inr h) =
        inl
        (grid_over binary64 j k x (m * up e) 0 (down e) (down_pos e) itself
        (flat' (m * up e * 2 ^ suc j) (k * down e) (2 ^ suc j) h))
