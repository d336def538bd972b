-- The greatest double.
use Rattle.std.specs.Prelude.{Float}
use Rattle.double.specs.rules.Operations.{bits}

-- (2^53 − 1)·2^971
abbrev pub greatest : Float
greatest = bits 0x7fefffffffffffff
