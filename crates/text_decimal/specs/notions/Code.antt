-- A reading as one number, by which `apart` tells two of them apart.
use Rattle.std.specs.Prelude.{ℕ, suc, to_bits}
use Rattle.std.specs.Float.{binary64}
use Rattle.text_decimal.specs.rules.Decimal.{Reading, is, none}

abbrev pub of_reading : Reading → ℕ
of_reading (is x) = suc (to_bits binary64 x)
of_reading none = 0
