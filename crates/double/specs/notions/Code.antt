-- Values as one number each, by which `apart` tells two of them apart.
use Rattle.std.specs.Prelude.{ℕ, Bool, cond, to_bits, Float}
use Rattle.std.specs.Float.{binary64}

abbrev pub of_float : Float → ℕ
of_float x = to_bits binary64 x

abbrev pub of_flag : Bool → ℕ
of_flag b = cond b 1 0

abbrev pub of_number : ℕ → ℕ
of_number n = n
