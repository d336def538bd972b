-- A number from 0.0 to a quarter turn that bears no minus sign.
use Rattle.std.specs.Prelude.{Float}
use Rattle.double.specs.rules.Operations.{zero}
use Rattle.double.specs.rules.Order.{Plus, Between}
use Rattle.quantity.specs.rules.Angle.{HALF}

pub record UpToHalf (b : Float) : Type 0 where
  pub plus : Plus b
  pub place : Between zero HALF b
