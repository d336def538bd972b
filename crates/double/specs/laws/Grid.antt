-- A rounded fraction stands to a point k / 2^(j + 1) as the fraction does, so an inequality with such a point goes through an
-- operation with no error term.
use Rattle.std.specs.Prelude.{◌≡◌, ℕ, suc, ◌+◌, ◌*◌, ◌^◌, ◌<◌, ◌≤◌, true, false, negsuc, refl, Float}
use Rattle.std.proofs.Common.{sym, ap, subst, le_trans, lt_of_lt_of_le, mul_comm, mul-one, mul-le-mul_right, le_of_mul-le-mul_right, arith, true≢false, pow_pos, pow_mono}
use Rattle.std.specs.Float.{nan, inf, fin, Format}
use Rattle.std.specs.Float.Ieee.{prec, emax, low}
use Rattle.std.specs.Float.Ieee.Fits.{reach}
use Rattle.std.specs.Float.Ieee.Exact.{HasValue}
use Rattle.std.specs.Float.Ieee.Positive.{den, den_pos}
use Rattle.double.specs.rules.Sign.{is_finite}
use Rattle.double.specs.rules.Order.{◌≼◌, Finite}
use Rattle.double.specs.notions.Fraction.{plus_part, minus_part, Rounds}
use Rattle.double.specs.notions.Grid.{grid, Parts}
use Rattle.double.specs.laws.Order.{le→below}
use Rattle.double.specs.laws.Fraction.{rounds_mono}
use Rattle.double.specs.laws.NearZero.{scaled_value}

-- ---- a value with no minus sign, by its parts

pub parts_of_value : (z : Float) (a c : ℕ) → HasValue z false a c → Parts z a c
unfolding is_finite
parts_of_value nan a c h = absurd h
parts_of_value (inf s) a c h = absurd h
parts_of_value (fin true m e) a c h = absurd (true≢false h.0)
parts_of_value (fin false m e) a c h = record { finite = tt; none = refl; some = h.1 }

module _ (f : Format) (j k : ℕ) where
  grid_rounds : Rounds f (grid f j k) k 0 (2 ^ suc j)
  grid_rounds = record { sign = false; top = k * 1; is = refl; value = omega arith }

  pub grid_parts : k < 2 ^ prec f → suc j ≤ low f → Parts (grid f j k) k (2 ^ suc j)
  grid_parts h l =
      subst (λ (a : ℕ). Parts (grid f j k) a (2 ^ suc j)) (mul-one k)
      (parts_of_value (grid f j k) (k * 1) (2 ^ suc j) (scaled_value f false k (negsuc j) h (pow_mono l) room))
    where
      grown : (a b : ℕ) → 0 < b → a ≤ a * b
      grown a b h = omega (arith, mul-le-mul_right a h, mul_comm a b)

      room : k * 1 < 2 ^ suc (emax f) * 2 ^ suc j
      room =
          lt_of_lt_of_le (subst (λ (x : ℕ). x < 2 ^ prec f) (sym (mul-one k)) h)
          (le_trans (pow_mono (reach f)) (grown (2 ^ suc (emax f)) (2 ^ suc j) (pow_pos (suc j))))

  -- ---- from fractions to values

  module _ (z : Float) (p n d : ℕ) (D : 0 < d) (r : Rounds f z p n d) where
    pub grid_under : k * d + n * 2 ^ suc j ≤ p * 2 ^ suc j → grid f j k ≼ z
    grid_under h = rounds_mono f (grid f j k) z k 0 (2 ^ suc j) p n d (pow_pos (suc j)) D grid_rounds r (flat (2 ^ suc j) h)
      where
        flat : (u : ℕ) → k * d + n * u ≤ p * u → k * d + n * u ≤ p * u + 0 * d
        flat u h = omega arith

    pub grid_over : p * 2 ^ suc j ≤ k * d + n * 2 ^ suc j → z ≼ grid f j k
    grid_over h = rounds_mono f z (grid f j k) p n d k 0 (2 ^ suc j) D (pow_pos (suc j)) r grid_rounds (flat (2 ^ suc j) h)
      where
        flat : (u : ℕ) → p * u ≤ k * d + n * u → p * u + 0 * d ≤ k * d + n * u
        flat u h = omega arith

-- ---- from values to fractions

cancel_under : (pg dg k u pz nz dz : ℕ) → 0 < dg → pg * u ≡ k * dg → pg * dz + nz * dg ≤ pz * dg + 0 * dz → k * dz + nz * u ≤ pz * u
cancel_under pg dg k u pz nz dz D e h = le_of_mul-le-mul_right (step (mul-le-mul_right u h) (ap (λ (x : ℕ). x * dz) e)) D
  where
    step : (pg * dz + nz * dg) * u ≤ (pz * dg + 0 * dz) * u → pg * u * dz ≡ k * dg * dz → (k * dz + nz * u) * dg ≤ pz * u * dg
    step a b = omega arith

cancel_over : (pg dg k u pz nz dz : ℕ) → 0 < dg → pg * u ≡ k * dg → pz * dg + 0 * dz ≤ pg * dz + nz * dg → pz * u ≤ k * dz + nz * u
cancel_over pg dg k u pz nz dz D e h = le_of_mul-le-mul_right (step (mul-le-mul_right u h) (ap (λ (x : ℕ). x * dz) e)) D
  where
    step : (pz * dg + 0 * dz) * u ≤ (pg * dz + nz * dg) * u → pg * u * dz ≡ k * dg * dz → pz * u * dg ≤ (k * dz + nz * u) * dg
    step a b = omega arith

module _ (f : Format) (j k : ℕ) (z : Float) (h : k < 2 ^ prec f) (l : suc j ≤ low f) (F : Finite z) where
  pub under_grid : grid f j k ≼ z → k * den z + minus_part z * 2 ^ suc j ≤ plus_part z * 2 ^ suc j
  under_grid t =
      let p = grid_parts f j k h l in
      let g = grid f j k in
      cancel_under (plus_part g) (den g) k (2 ^ suc j) (plus_part z) (minus_part z) (den z) (den_pos g) p.some
      (subst (λ (n : ℕ). plus_part g * den z + minus_part z * den g ≤ plus_part z * den g + n * den z) p.none (le→below g z p.finite F t))

  pub over_grid : z ≼ grid f j k → plus_part z * 2 ^ suc j ≤ k * den z + minus_part z * 2 ^ suc j
  over_grid t =
      let p = grid_parts f j k h l in
      let g = grid f j k in
      cancel_over (plus_part g) (den g) k (2 ^ suc j) (plus_part z) (minus_part z) (den z) (den_pos g) p.some
      (subst (λ (n : ℕ). plus_part z * den g + n * den z ≤ plus_part g * den z + minus_part z * den g) p.none (le→below z g F p.finite t))
