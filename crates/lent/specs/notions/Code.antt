-- A text as one number, by which `apart` tells two of them apart: its bytes are the digits.
use Rattle.std.specs.Prelude.{ℕ, ◌+◌, ◌*◌, List, [], ◌∷◌}

abbrev pub of_bytes : List ℕ → ℕ
of_bytes [] = 1
of_bytes (b ∷ bs) = b + 256 * of_bytes bs
