-- Wrong variants of what is stated.
use Rattle.std.specs.Prelude.{ℕ, ◌≡◌, ◌⊎◌}

-- of the statuses of a star
abbrev pub StatusFiveForFour : ℕ → Type 0
StatusFiveForFour n = (n ≡ 0) ⊎ (n ≡ 3) ⊎ (n ≡ 5) ⊎ (n ≡ 7) ⊎ (n ≡ 9) ⊎ (n ≡ 14)

-- the statuses of before: a declination past the pole is none of them
abbrev pub StatusThreeLeftOut : ℕ → Type 0
StatusThreeLeftOut n = (n ≡ 0) ⊎ (n ≡ 4) ⊎ (n ≡ 7) ⊎ (n ≡ 9) ⊎ (n ≡ 14)
