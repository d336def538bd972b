-- Minutes of arc as one number, by which `apart` tells two of them apart.
use Rattle.std.specs.Prelude.{ℕ}
use Rattle.double.specs.notions.Code.{of_float}
use Rattle.atmos.specs.declared.Arcmin.{Arcmin}

abbrev pub of_arcmin : Arcmin → ℕ
of_arcmin x = of_float x.0
