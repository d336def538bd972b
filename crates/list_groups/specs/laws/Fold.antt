-- The fold and its undoing are each other's inverse, and keep within 32 bits.
use Rattle.std.specs.Prelude.{◌≡◌, refl, Bool, true, false, cond, ℕ, ◌+◌, ◌*◌, ◌/◌, ◌%◌, ◌<◌, eqb, ℤ, pos, negsuc}
use Rattle.std.proofs.Common.{ap, arith, eq-eqb, ne_eqb, eqb-true}
use Rattle.std.proofs.lemmas.Bool.{eqb-false}
use Rattle.signed.specs.rules.Signed.{HasWord}
use Rattle.list_groups.specs.rules.Fold.{folded, unfolded}

pub unfolded_folded : (z : ℤ) → unfolded (folded z) ≡ z
unfolding folded unfolded
unfolded_folded (pos n) = rw (eq-eqb (2 * n % 2) 0 (omega arith)) (ap pos (let q : 2 * n / 2 ≡ n = omega arith in q))
unfolded_folded (negsuc n) = rw (ne_eqb ((2 * n + 1) % 2) 0 (λ e. omega arith)) (ap negsuc (let q : (2 * n + 1) / 2 ≡ n = omega arith in q))

pub folded_unfolded : (n : ℕ) → folded (unfolded n) ≡ n
unfolding folded unfolded
folded_unfolded n = go (eqb (n % 2) 0) refl
  where
    go : (t : Bool) → eqb (n % 2) 0 ≡ t → folded (cond t (pos (n / 2)) (negsuc (n / 2))) ≡ n
    go true e = omega (arith, eqb-true (n % 2) 0 e)
    go false e = odd (n % 2) (n / 2) n (omega arith) (omega arith) (eqb-false (n % 2) 0 e)
      where
        odd : (r q n : ℕ) → r < 2 → n ≡ 2 * q + r → (r ≡ 0 → ⊥) → 2 * q + 1 ≡ n
        odd r q n h e d = omega (arith, d)

-- i32 to u32, and back
pub folded_small : (z : ℤ) → HasWord z → folded z < 4294967296
unfolding folded
folded_small (pos n) h = omega arith
folded_small (negsuc n) h = omega arith

pub unfolded_small : (n : ℕ) → n < 4294967296 → HasWord (unfolded n)
unfolding unfolded
unfolded_small n h = go (eqb (n % 2) 0)
  where
    go : (t : Bool) → HasWord (cond t (pos (n / 2)) (negsuc (n / 2)))
    go true = omega arith
    go false = omega arith
