-- What is not below zero raises no double that it is taken from, and lowers none that it is added to. That x is a double is said by
-- `fits binary64 x`, which every f64 has.
use Rattle.std.specs.Prelude.{ℕ, ◌+◌, ◌*◌, ◌≤◌, ◌≡◌, true, false, T, Float}
use Rattle.std.proofs.Common.{mul-pos, arith, sym}
use Rattle.std.specs.Float.{nan, inf, fin, binary64}
use Rattle.std.specs.Float.Ieee.{fits}
use Rattle.std.specs.Float.Ieee.Positive.{den, den_pos}
use Rattle.double.specs.rules.Operations.{◌⊕◌, ◌⊖◌}
use Rattle.double.specs.rules.Sign.{is_finite}
use Rattle.double.specs.rules.Order.{◌≼◌, Finite, Plus}
use Rattle.double.specs.notions.Fraction.{plus_part, minus_part, Rounds}
use Rattle.double.specs.laws.Exact.{round_own}
use Rattle.double.specs.laws.Fraction.{minus_none, rounds_mono, add_rounds, sub_rounds}

-- a double is its own value rounded
own_rounds : (x : Float) → T (fits binary64 x) → Finite x → Rounds binary64 x (plus_part x) (minus_part x) (den x)
unfolding is_finite
own_rounds nan F p = absurd p
own_rounds (inf s) F p = absurd p
own_rounds (fin true m e) F p = record { sign = true; top = _; is = sym (round_own binary64 true m e F); value = omega arith }
own_rounds (fin false m e) F p = record { sign = false; top = _; is = sym (round_own binary64 false m e F); value = omega arith }

module _ (x y : Float) (F : T (fits binary64 x)) (X : Finite x) (Y : Finite y) (P : Plus y) where
  pub not_raised : x ⊖ y ≼ x
  not_raised =
      rounds_mono binary64 (x ⊖ y) x _ _ _ _ _ _ (mul-pos (den_pos x) (den_pos y)) (den_pos x) (sub_rounds binary64 x y X Y)
      (own_rounds x F X)
      (less (plus_part x) (minus_part x) (den x) (plus_part y) (minus_part y) (den y) (minus_none y P))
    where
      less : (px nx dx py ny dy : ℕ) → ny ≡ 0
          → (px * dy + ny * dx) * dx + nx * (dx * dy) ≤ px * (dx * dy) + (nx * dy + py * dx) * dx
      less px nx dx py ny dy e = rw e (omega arith)

  pub not_lowered : x ≼ x ⊕ y
  not_lowered =
      rounds_mono binary64 x (x ⊕ y) _ _ _ _ _ _ (den_pos x) (mul-pos (den_pos x) (den_pos y)) (own_rounds x F X)
      (add_rounds binary64 x y X Y)
      (more (plus_part x) (minus_part x) (den x) (plus_part y) (minus_part y) (den y) (minus_none y P))
    where
      more : (px nx dx py ny dy : ℕ) → ny ≡ 0
          → px * (dx * dy) + (nx * dy + ny * dx) * dx ≤ (px * dy + py * dx) * dx + nx * (dx * dy)
      more px nx dx py ny dy e = rw e (omega arith)
