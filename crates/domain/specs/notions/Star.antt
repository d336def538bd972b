-- The statuses that the batch can store of a star.
use Rattle.std.specs.Prelude.{ℕ, ◌≡◌, ◌⊎◌}

abbrev pub OfAStar : ℕ → Type 0
OfAStar n = (n ≡ 0) ⊎ (n ≡ 3) ⊎ (n ≡ 4) ⊎ (n ≡ 7) ⊎ (n ≡ 9) ⊎ (n ≡ 10) ⊎ (n ≡ 14)
