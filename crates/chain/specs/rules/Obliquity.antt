-- The obliquity of the ecliptic, mean (Meeus 22.2, c being the century of a day) and true.
use Rattle.std.specs.Prelude.{Float}
use Rattle.double.specs.rules.Operations.{◌⊕◌, ◌⊖◌, ◌⊗◌}
use Rattle.quantity.specs.declared.Deg.{Deg}
use Rattle.quantity.specs.declared.Rad.{Rad}
use Rattle.quantity.specs.rules.Angle.{deg, rad}
use Rattle.helpers.specs.rules.Angle.{arc, radians_of}
use Rattle.helpers.specs.rules.Time.{century_of}
use Rattle.chain.specs.rules.Numbers.{n84381·448, n46·8150, n0·00059, n0·001813}

unfoldable pub mean_obliquity : Float → Deg
mean_obliquity c =
    deg (arc n84381·448 ⊖ c ⊗ (arc n46·8150 ⊕ c ⊗ (arc n0·00059 ⊖ c ⊗ arc n0·001813)))

unfoldable pub mean_obliquity_of : Float → Rad
mean_obliquity_of day = radians_of (mean_obliquity (century_of day))

-- the mean obliquity in radians, plus nutation in obliquity
unfoldable pub true_obliquity : Rad → Rad → Rad
true_obliquity mean nutation = rad (mean.0 ⊕ nutation.0)
