-- Wrong variants of a star's place.
use Rattle.std.specs.Prelude.{pos, nat_abs, Float}
use Rattle.double.specs.rules.Operations.{bits, ◌⊖◌, ◌⊗◌, ◌⊘◌}
use Rattle.quantity.specs.declared.Rad.{Rad}
use Rattle.quantity.specs.rules.Angle.{rad}
use Rattle.units.specs.rules.Degrees.{degrees_of}
use Rattle.units.specs.notions.Wrong.{seconds_for_milliarcseconds}
use Rattle.elementary.specs.rules.Sine.{cosine_of}
use Rattle.helpers.specs.rules.Angle.{radians_of}
use Rattle.helpers.specs.rules.Time.{days_of_century}
use Rattle.list.specs.declared.Star.{Star}
use Rattle.star_place.specs.rules.Place.{days_of_year, angle_of, record_asc, record_dec, shifted, dec_of}

-- ---- the record's coordinates

abbrev pub declination_for_ascension : Star → Float → Rad
declination_for_ascension = dec_of

abbrev pub ascension_in_seconds : Star → Float → Rad
ascension_in_seconds star years = shifted (radians_of (seconds_for_milliarcseconds (pos star.asc))) (angle_of star.asc_rate) years

-- its sign lost
abbrev pub south_taken_for_north : Star → Float → Rad
south_taken_for_north star years = shifted (angle_of (pos (nat_abs star.dec))) (angle_of star.dec_rate) years

abbrev pub declination_in_seconds : Star → Float → Rad
declination_in_seconds star years = shifted (radians_of (seconds_for_milliarcseconds star.dec)) (angle_of star.dec_rate) years

-- ---- their yearly changes

-- the declination's for the right ascension's, and the other way
abbrev pub ascension_by_other_rate : Star → Float → Rad
ascension_by_other_rate star years = shifted (record_asc star) (angle_of star.dec_rate) years

abbrev pub declination_by_other_rate : Star → Float → Rad
declination_by_other_rate star years = shifted (record_dec star) (angle_of star.asc_rate) years

-- taken for what catalogues print
abbrev pub rate_over_cosine : Star → Float → Rad
rate_over_cosine star years = shifted (record_asc star) (rad ((angle_of star.asc_rate).0 ⊘ cosine_of (record_dec star))) years

abbrev pub rate_times_cosine : Star → Float → Rad
rate_times_cosine star years = shifted (record_asc star) (rad ((angle_of star.asc_rate).0 ⊗ cosine_of (record_dec star))) years

abbrev pub rate_in_degrees : Star → Float → Rad
rate_in_degrees star years = shifted (record_asc star) (rad (degrees_of star.asc_rate).0) years

abbrev pub declination_rate_in_degrees : Star → Float → Rad
declination_rate_in_degrees star years = shifted (record_dec star) (rad (degrees_of star.dec_rate).0) years

-- its sign lost
abbrev pub rate_without_sign : Star → Float → Rad
rate_without_sign star years = shifted (record_dec star) (angle_of (pos (nat_abs star.dec_rate))) years

-- no shift at all
abbrev pub rate_left_out : Star → Float → Rad
rate_left_out star years = record_dec star

-- ---- the years

-- by 365.0
abbrev pub short_year : Float → Float → Float
short_year day1 day2 = (day2 ⊖ day1) ⊘ bits 0x4076d00000000000

abbrev pub centuries_for_years : Float → Float → Float
centuries_for_years day1 day2 = (day2 ⊖ day1) ⊘ days_of_century

-- JD1 − JD2
abbrev pub years_backwards : Float → Float → Float
years_backwards day1 day2 = (day1 ⊖ day2) ⊘ days_of_year
