-- What the test for a number of 64 bits below zero tells, as `signed` has it for 32.
use mathlib.Core.Path.{◌≡◌, refl, sym, ap, subst, ◌∙◌}
use mathlib.Core.Bool.{Bool, true, false, cond, true≢false}
use Prim.Native.Nat.{ℕ, suc, ◌+◌, ◌-◌, ◌≤◌, ◌<◌}
use native.Mathlib.Numerals.{add-one}
use native.Mathlib.Omega.{arith}
use lib.Dec.{T}
use lib.IntN.{ℤ, pos, negsuc, nat_abs, ◌-ℤ◌}
use lib.Signed.{non_neg}
use mir.Syntax.{w64}
use mir.Val.{Fits, SFits, to_z, of_z}
use mir.Facts.{to_z-of_z}
use borrow.Author.Tests.{ltb-true, le-ltb}
use Rattle.signed.specs.rules.Signed.{negative, reach}

pub size_below : (y : ℤ) → negative y ≡ true → reach y + 1 ≡ nat_abs y
size_below (pos n) h = absurd (omega (arith, ltb-true n 0 h))
size_below (negsuc n) h = add-one n

pub size_above : (y : ℤ) → negative y ≡ false → reach y ≡ nat_abs y
size_above (pos n) h = refl
size_above (negsuc n) h = absurd (true≢false h)

-- a number whose sign is known, cast to one without
abbrev Casts : ℤ → Type 0
Casts y = T (non_neg y) × Fits w64 (nat_abs y)

plain : (n : ℕ) → SFits w64 (pos n) → Casts (pos n)
plain n f = (tt, record { fits = omega (arith, f.sfits) })

pub above : (y : ℤ) → SFits w64 y → negative y ≡ false → Casts y
above (pos n) f h = plain n f
above (negsuc n) f h = absurd (true≢false h)

-- −1 − y where y is below zero
flip : (y : ℤ) → negative y ≡ true → negsuc 0 -ℤ y ≡ pos (reach y)
flip (pos n) h = absurd (omega (arith, ltb-true n 0 h))
flip (negsuc n) h =
    ap (λ (b : Bool). cond b (negsuc (1 - suc (suc n))) (pos (suc n - 1))) (le-ltb (suc n) 1 (omega arith))
    ∙ ap pos (let e : suc n - 1 ≡ n = omega arith in e)

module _ (y : ℤ) (f : SFits w64 y) (h : negative y ≡ true) where
  pub fits_flipped : SFits w64 (negsuc 0 -ℤ y)
  fits_flipped = rw (flip y h) (record { sfits = f.sfits })

  flipped : to_z w64 (of_z w64 (negsuc 0 -ℤ y)) ≡ pos (reach y)
  flipped = to_z-of_z fits_flipped ∙ flip y h

  pub casts_flipped : Casts (to_z w64 (of_z w64 (negsuc 0 -ℤ y)))
  casts_flipped = subst Casts (sym flipped) (plain (reach y) (record { sfits = f.sfits }))

  pub reach_flipped : nat_abs (to_z w64 (of_z w64 (negsuc 0 -ℤ y))) ≡ reach y
  reach_flipped = ap nat_abs flipped

-- an argument as the code reads it
pub as_read : (z : ℤ) → reach z < 9223372036854775808 → to_z w64 (of_z w64 z) ≡ z
as_read z h = to_z-of_z {w = w64} (record { sfits = h })
