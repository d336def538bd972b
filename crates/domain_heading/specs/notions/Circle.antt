-- Where a heading lies on the circle, in degrees.
use Rattle.std.specs.Prelude.{T, Float}
use Rattle.std.specs.Float.Ieee.{lt}
use Rattle.double.specs.rules.Operations.{bits, zero}
use Rattle.double.specs.rules.Order.{◌≼◌, Finite}
use Rattle.helpers.specs.rules.Angle.{turn_in_degrees}

-- from 0 to below 360
pub record IsHeading (x : Float) : Type 0 where
  pub finite : Finite x
  pub from : zero ≼ x
  pub below : T (lt x turn_in_degrees)

-- 90.0, due east
abbrev pub east : Float
east = bits 0x4056800000000000

-- 270.0, due west
abbrev pub west : Float
west = bits 0x4070e00000000000
