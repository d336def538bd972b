-- The numbers that a heading may be refused by.
use Rattle.std.specs.Prelude.{ℕ, ◌≡◌, ◌⊎◌}

-- of days and a place that are not refused
abbrev pub OfASight : ℕ → Type 0
OfASight n = (n ≡ 3) ⊎ (n ≡ 4) ⊎ (n ≡ 7) ⊎ (n ≡ 9) ⊎ (n ≡ 14)

-- of angles that are finite
abbrev pub NoneThreeOrFour : ℕ → Type 0
NoneThreeOrFour n = (n ≡ 0) ⊎ (n ≡ 3) ⊎ (n ≡ 4)

-- of any arguments
abbrev pub OfAHeading : ℕ → Type 0
OfAHeading n = (n ≡ 1) ⊎ (n ≡ 2) ⊎ OfASight n
