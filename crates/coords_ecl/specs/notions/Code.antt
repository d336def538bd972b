-- An ecliptic point as one number, by which `apart` tells two of them apart.
use Rattle.std.specs.Prelude.{ℕ, ◌+◌, ◌*◌, ◌^◌}
use Rattle.double.specs.notions.Code.{of_float}
use Rattle.quantity.specs.declared.EclPoint.{EclPoint}

abbrev pub of_ecl_point : EclPoint → ℕ
of_ecl_point p = 2 ^ 64 * of_float p.long + of_float p.lat
