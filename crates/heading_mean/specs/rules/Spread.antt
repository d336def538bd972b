-- The spread of the residuals that are taken in, and the error of their mean, in milliarcseconds: roots of quotients of whole numbers, by
-- their count n, the size s of their sum and the sum q of their squares.
use Rattle.std.specs.Prelude.{ℕ, ◌-◌, ◌*◌, Bool, ◌&&◌, cond, leb, Float}
use Rattle.double.specs.rules.Operations.{zero, ◌⊘◌}
use Rattle.double.specs.rules.Whole.{from_whole}
use Rattle.root.specs.rules.Root.{root_of}

-- from two sights to 3000, each of 1000000 at most
unfoldable pub is_night : ℕ → ℕ → ℕ → Bool
is_night n s q = leb 2 n && (leb n 3000 && (leb s 3000000000 && leb q 3000000000000000))

-- each whole number to the nearest double, then the quotient, then the root
unfoldable pub root_over : ℕ → ℕ → Float
root_over a b = root_of (from_whole a ⊘ from_whole b)

-- n times the sum of the squares of what is left by the mean
abbrev pub scatter : ℕ → ℕ → ℕ → ℕ
scatter n s q = n * q - s * s

unfoldable pub spread_of : ℕ → ℕ → ℕ → Float
spread_of n s q = cond (is_night n s q) (root_over (scatter n s q) (n * (n - 1))) zero

unfoldable pub mean_error : ℕ → ℕ → ℕ → Float
mean_error n s q = cond (is_night n s q) (root_over (scatter n s q) (n * n * (n - 1))) zero
