-- One double at most is the nearest to a root: the root would lie on both sides of the midpoint between two.
use Rattle.std.specs.Prelude.{◌≡◌, ℕ, ◌+◌, ◌*◌, ◌<◌, ◌≤◌, ◌⊎◌, Float}
use Rattle.std.proofs.Common.{sym, inl, inr, eq-or-lt_of_le, arith}
use Rattle.double.specs.rules.Count.{count}
use Rattle.root.specs.rules.Nearest.{IsRoot}
use Rattle.double.specs.laws.Numbers.{less_or_not}
use Rattle.double.specs.laws.Count.{same_count}

clash : (w a b : ℕ) → w < (a + b) * (a + b) → (b + a) * (b + a) < w → ⊥
clash w a b h k = omega arith

pub root_unique : (x r s : Float) → IsRoot x r → IsRoot x s → r ≡ s
root_unique x r s h k = go (less_or_not (count r) (count s))
  where
    at_most : (count s ≡ count r) ⊎ (count s < count r) → r ≡ s
    at_most (inl e) = same_count r s h.double k.double (sym e)
    at_most (inr l) = absurd (clash _ (count s) (count r) (k.above r h.double l) (h.below s k.double l))

    go : (count r < count s) ⊎ (count s ≤ count r) → r ≡ s
    go (inl l) = absurd (clash _ (count r) (count s) (h.above s k.double l) (k.below r h.double l))
    go (inr g) = at_most (eq-or-lt_of_le g)
