-- A signed number of 32 bits: its sign, its reach, and its word by two's complement.
use Rattle.std.specs.Prelude.{ℕ, ◌<◌, Bool, ℤ, pos}
use Rattle.std.specs.Int.Signed.{lt_z, mag}
use Rattle.std.specs.Int.{w32}
use Rattle.std.proofs.Common.{to_z, of_z}

abbrev pub negative : ℤ → Bool
negative z = lt_z z (pos 0)

-- how far from 0, or from −1 below zero: n for n, and n for −1 − n
abbrev pub reach : ℤ → ℕ
reach z = mag z

-- n for n, and 2^32 − n for −n
abbrev pub word_of : ℤ → ℕ
word_of z = of_z w32 z

-- u below 2^31, and from there on u − 2^32
abbrev pub signed_of : ℕ → ℤ
signed_of u = to_z w32 u

-- z has a word: from −2^31 to 2^31 − 1
abbrev pub HasWord : ℤ → Type 0
HasWord z = reach z < 2147483648
