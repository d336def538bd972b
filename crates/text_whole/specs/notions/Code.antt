-- A reading as one number, by which `apart` tells two of them apart.
use Rattle.std.specs.Prelude.{ℕ, suc, ◌*◌, ℤ, pos, negsuc}
use Rattle.text_whole.specs.rules.Unsigned.{Reading, is, none}

abbrev pub of_unsigned : Reading ℕ → ℕ
of_unsigned (is n) = suc n
of_unsigned none = 0

-- even above zero, odd below
abbrev pub of_integer : ℤ → ℕ
of_integer (pos n) = 2 * n
of_integer (negsuc n) = suc (2 * n)

abbrev pub of_signed : Reading ℤ → ℕ
of_signed (is z) = suc (of_integer z)
of_signed none = 0
