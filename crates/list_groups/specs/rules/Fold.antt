-- The fold of signed numbers: 0, −1, 1, −2 become 0, 1, 2, 3.
use Rattle.std.specs.Prelude.{ℕ, ◌+◌, ◌*◌, ◌/◌, ◌%◌, cond, eqb, ℤ, pos, negsuc}

-- n, and −1 − n
unfoldable pub folded : ℤ → ℕ
folded (pos n) = 2 * n
folded (negsuc n) = 2 * n + 1

unfoldable pub unfolded : ℕ → ℤ
unfolded n = cond (eqb (n % 2) 0) (pos (n / 2)) (negsuc (n / 2))
