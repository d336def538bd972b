-- Bytes that are had back from what was read of them.
use Rattle.std.specs.Prelude.{ℕ, ◌≡◌, List}
use Rattle.list.specs.rules.Record.{star_bytes, Fitting}
use Rattle.list.specs.rules.Stars.{stars, records_bytes, AllHold}
use Rattle.list.specs.declared.Star.{Star}

-- s is the bytes of these records, each of which holds what its bytes can say
pub record Kept (recordBytes : Star → List ℕ) (Holds : Star → Type 0) (rs : List Star) (s : List ℕ) : Type 0 where
  pub bytes : records_bytes recordBytes rs ≡ s
  pub fitting : AllHold Holds rs

abbrev pub Whole : List ℕ → Type 0
Whole s = Kept star_bytes Fitting (stars s) s
