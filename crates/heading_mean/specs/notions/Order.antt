-- A set in another order, and a sight that two references share.
use Rattle.std.specs.Prelude.{ℕ, ◌<◌, ◌≡◌, List, ◌∷◌, length, get_or}
use Rattle.quantity.specs.declared.Deg.{Deg}
use Rattle.heading_mean.specs.rules.Reference.{vote}

pub data Reordered : List ℕ → List ℕ → Type 0 where
  same : (s : List ℕ) → Reordered s s
  next : (b : ℕ) (s t : List ℕ) → Reordered s t → Reordered (b ∷ s) (b ∷ t)
  swapped : (a b : ℕ) (s : List ℕ) → Reordered (a ∷ b ∷ s) (b ∷ a ∷ s)
  after : (s t u : List ℕ) → Reordered s t → Reordered t u → Reordered s u

-- a place whose sight agrees with both
pub record Shared (r s : Deg) (headings : List ℕ) : Type 0 where
  pub place : ℕ
  pub there : place < length headings
  pub first : vote r (get_or headings place 0) ≡ 1
  pub second : vote s (get_or headings place 0) ≡ 1
