-- A star's place in radians: the milliarcseconds of its record as degrees, and these as radians; then each coordinate plus its yearly
-- change, converted likewise, times the years between the two days.
use Rattle.std.specs.Prelude.{ℤ, pos, Float}
use Rattle.double.specs.rules.Operations.{bits, ◌⊕◌, ◌⊖◌, ◌⊗◌, ◌⊘◌}
use Rattle.quantity.specs.declared.Rad.{Rad}
use Rattle.quantity.specs.rules.Angle.{rad}
use Rattle.units.specs.rules.Degrees.{degrees_of}
use Rattle.helpers.specs.rules.Angle.{radians_of}
use Rattle.list.specs.declared.Star.{Star}

-- 365.25
abbrev pub days_of_year : Float
days_of_year = bits 0x4076d40000000000

-- (JD2 − JD1)/365.25
abbrev pub years_between : Float → Float → Float
years_between day1 day2 = (day2 ⊖ day1) ⊘ days_of_year

-- a count of milliarcseconds in radians
abbrev pub angle_of : ℤ → Rad
angle_of count = radians_of (degrees_of count)

-- where the record has the star, on the first day
abbrev pub record_asc : Star → Rad
record_asc star = angle_of (pos star.asc)

abbrev pub record_dec : Star → Rad
record_dec star = angle_of star.dec

-- a coordinate plus its yearly change times the years
abbrev pub shifted : Rad → Rad → Float → Rad
shifted coordinate change years = rad (coordinate.0 ⊕ (change.0 ⊗ years))

-- after so many years; neither is folded
abbrev pub asc_of : Star → Float → Rad
asc_of star years = shifted (record_asc star) (angle_of star.asc_rate) years

abbrev pub dec_of : Star → Float → Rad
dec_of star years = shifted (record_dec star) (angle_of star.dec_rate) years
