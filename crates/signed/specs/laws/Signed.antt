-- A signed number and its word say the same.
use Rattle.std.specs.Prelude.{◌≡◌, refl, Bool, true, false, ℕ, suc, ◌-◌, ◌<◌, ltb, ℤ, pos, negsuc}
use Rattle.std.proofs.Common.{arith, to_z-of_z, ltb-true, ltb-false}
use Rattle.std.specs.Int.{w32}
use mir.Val.{sel}
use Rattle.std.proofs.Math.Facts.{of_z-to_z}
use Rattle.signed.specs.rules.Signed.{word_of, signed_of, HasWord}

pub signed_word : (z : ℤ) → HasWord z → signed_of (word_of z) ≡ z
signed_word z h = to_z-of_z {w = w32} (record { sfits = h })

pub word_signed : (u : ℕ) → u < 4294967296 → word_of (signed_of u) ≡ u
word_signed u h = of_z-to_z {w = w32} (record { fits = h })

pub word_small : (z : ℤ) → HasWord z → word_of z < 4294967296
word_small (pos n) h = omega arith
word_small (negsuc n) h = omega arith

pub has_word : (u : ℕ) → u < 4294967296 → HasWord (signed_of u)
has_word u h = go (ltb u 2147483648) refl
  where
    go : (t : Bool) → ltb u 2147483648 ≡ t → HasWord (sel t (pos u) (negsuc (4294967296 - suc u)))
    go true e = ltb-true u 2147483648 e
    go false e = omega (arith, ltb-false u 2147483648 e)
