-- A number of up to 32 bits in groups of seven bits, low group first, high bit set on all groups but the last, in the shortest length.
use Rattle.std.specs.Prelude.{ℕ, zero, suc, ◌+◌, ◌/◌, ◌%◌, cond, List, [], ◌∷◌, ltb}

-- n, of whose groups at most so many follow the first
abbrev pub groups_within : ℕ → ℕ → List ℕ
groups_within zero n = n ∷ []
groups_within (suc more) n = cond (ltb n 128) (n ∷ []) ((128 + n % 128) ∷ groups_within more (n / 128))

-- 32 bits have five groups at most
unfoldable pub groups : ℕ → List ℕ
groups n = groups_within 4 n
