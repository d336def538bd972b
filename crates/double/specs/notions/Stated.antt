-- Inputs at which theorems work rules out.
use Rattle.std.specs.Prelude.{Float}
use Rattle.double.specs.rules.Operations.{bits}

abbrev pub minus_zero : Float
minus_zero = bits 0x8000000000000000

-- the next double above 1.0
abbrev pub past_one : Float
past_one = bits 0x3ff0000000000001

-- 4.0
abbrev pub four : Float
four = bits 0x4010000000000000
