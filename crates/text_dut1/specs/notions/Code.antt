-- A reading as one number, by which `apart` tells two of them apart.
use Rattle.std.specs.Prelude.{ℕ, suc, ◌*◌, ℤ, pos, negsuc}
use Rattle.text_dut1.specs.rules.Dut1.{Reading, is, none}

-- even above zero, odd below
abbrev of_integer : ℤ → ℕ
of_integer (pos n) = 2 * n
of_integer (negsuc n) = suc (2 * n)

abbrev pub of_reading : Reading → ℕ
of_reading (is z) = suc (of_integer z)
of_reading none = 0
