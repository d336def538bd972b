-- Degrees of radians, and of a count of milliarcseconds; degrees in milliarcseconds.
use Rattle.std.specs.Prelude.{ℤ, Float}
use Rattle.std.specs.Float.{binary64}
use Rattle.std.specs.Float.Ieee.{of_int}
use Rattle.double.specs.rules.Operations.{bits, ◌⊗◌, ◌⊘◌}
use Rattle.quantity.specs.declared.Deg.{Deg}
use Rattle.quantity.specs.declared.Rad.{Rad}
use Rattle.quantity.specs.rules.Angle.{deg}

-- 180/PI
abbrev pub degrees_of_radian : Float
degrees_of_radian = bits 0x404ca5dc1a63c1f8

abbrev pub to_degrees : Rad → Deg
to_degrees x = deg (x.0 ⊗ degrees_of_radian)

-- 3600000.0
abbrev pub milliarcseconds_of_degree : Float
milliarcseconds_of_degree = bits 0x414b774000000000

abbrev pub milliarcseconds : Deg → Float
milliarcseconds x = x.0 ⊗ milliarcseconds_of_degree

-- a count of milliarcseconds: the count is exact, and the quotient rounded once
abbrev pub degrees_of : ℤ → Deg
degrees_of count = deg (of_int binary64 count ⊘ milliarcseconds_of_degree)
