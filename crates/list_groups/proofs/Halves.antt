-- The fold by sign and reach, and its undoing by the half.
use mathlib.Core.Path.{◌≡◌, refl, ap, ◌∙◌}
use mathlib.Core.Bool.{true, false}
use Prim.Native.Nat.{ℕ, zero, suc, ◌+◌, ◌*◌, ◌/◌, ◌%◌, ◌<◌}
use native.Mathlib.Nat.{zero-add}
use native.Mathlib.Omega.{arith}
use lib.IntN.{ℤ, pos, negsuc, ◌-ℤ◌}
use mir.Syntax.{w32}
use mir.Val.{SFits, to_z, of_z}
use mir.Facts.{to_z-of_z, to_z_pos}
use borrow.Author.Tests.{ltb-true, eq-eqb, ne_eqb}
use Rattle.signed.specs.rules.Signed.{negative, reach}
use Rattle.list_groups.specs.rules.Fold.{folded, unfolded}

pub below : (z : ℤ) → negative z ≡ true → 2 * reach z + 1 ≡ folded z
unfolding folded
below (pos n) h = absurd (omega (arith, ltb-true n 0 h))
below (negsuc n) h = refl

pub not_below : (z : ℤ) → negative z ≡ false → 2 * reach z ≡ folded z
unfolding folded
not_below (pos n) h = refl
not_below (negsuc n) h = absurd (let z : ◌≡◌ {A = ℕ} 0 1 = cc in omega arith)

pub even : (n : ℕ) → n < 4294967296 → n % 2 ≡ 0 → to_z w32 (n / 2) ≡ unfolded n
unfolding unfolded
even n h e = rw (eq-eqb (n % 2) 0 e) (to_z_pos w32 (omega arith))

-- −1 − k
under : (k : ℕ) → negsuc 0 -ℤ pos k ≡ negsuc k
under zero = refl
under (suc k) = ap (λ (n : ℕ). negsuc (suc n)) (zero-add k)

module _ (n : ℕ) (h : n < 4294967296) where
  minus : negsuc 0 -ℤ to_z w32 (n / 2) ≡ negsuc (n / 2)
  minus =
      let low : n / 2 < 2147483648 = omega arith in
      ap (λ (z : ℤ). negsuc 0 -ℤ z) (to_z_pos w32 low) ∙ under (n / 2)

  pub odd_fits : SFits w32 (negsuc 0 -ℤ to_z w32 (n / 2))
  odd_fits = rw minus (record { sfits = omega arith })

  pub odd : (n % 2 ≡ 0 → ⊥) → to_z w32 (of_z w32 (negsuc 0 -ℤ to_z w32 (n / 2))) ≡ unfolded n
  unfolding unfolded
  odd e = to_z-of_z odd_fits ∙ minus ∙ rw (ne_eqb (n % 2) 0 e)
