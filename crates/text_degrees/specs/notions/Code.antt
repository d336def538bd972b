-- A reading as one number, by which `apart` tells two of them apart.
use Rattle.std.specs.Prelude.{ℕ, suc}
use Rattle.quantity.specs.notions.Code.{of_deg}
use Rattle.text_degrees.specs.rules.Degrees.{Angle, of, unclear}

abbrev pub of_angle : Angle → ℕ
of_angle (of x) = suc (of_deg x)
of_angle unclear = 0
