-- Wrong variants are excluded: each differs from the rule at the input stated.
use Rattle.std.specs.Prelude.{refl, pos, negsuc, Float, ◌≢◌}
use Rattle.double.specs.rules.Operations.{bits}
use Rattle.double.specs.laws.Apart.{apart}
use Rattle.quantity.specs.rules.Refusal.{epoch}
use Rattle.quantity.specs.notions.Code.{of_float, of_rad}
use Rattle.quantity.specs.notions.Stated.{earlier}
use Rattle.elementary.specs.notions.Computed.{computed}
use Rattle.list.specs.declared.Star.{Star}
use Rattle.star_place.specs.rules.Place.{years_between, asc_of, dec_of}
use Rattle.star_place.specs.notions.Wrong.{declination_for_ascension, ascension_in_seconds, south_taken_for_north, declination_in_seconds}
use Rattle.star_place.specs.notions.Wrong.{ascension_by_other_rate, declination_by_other_rate, rate_over_cosine, rate_times_cosine, rate_in_degrees}
use Rattle.star_place.specs.notions.Wrong.{declination_rate_in_degrees, rate_without_sign, rate_left_out, short_year, centuries_for_years, years_backwards}

-- a second of arc past 0 and 60 degrees south, moving forwards and further south
abbrev south : Star
south = record { number = 0; asc = 1000; dec = negsuc 215999999; asc_rate = pos 300; dec_rate = negsuc 199 }

-- 100.0
abbrev hundred : Float
hundred = bits 0x4059000000000000

pub declination_for_ascension_excluded : declination_for_ascension south hundred ≢ asc_of south hundred
unfolding computed
declination_for_ascension_excluded = apart of_rad refl

pub ascension_in_seconds_excluded : ascension_in_seconds south hundred ≢ asc_of south hundred
unfolding computed
ascension_in_seconds_excluded = apart of_rad refl

pub south_taken_for_north_excluded : south_taken_for_north south hundred ≢ dec_of south hundred
unfolding computed
south_taken_for_north_excluded = apart of_rad refl

pub declination_in_seconds_excluded : declination_in_seconds south hundred ≢ dec_of south hundred
unfolding computed
declination_in_seconds_excluded = apart of_rad refl

pub ascension_by_other_rate_excluded : ascension_by_other_rate south hundred ≢ asc_of south hundred
unfolding computed
ascension_by_other_rate_excluded = apart of_rad refl

pub declination_by_other_rate_excluded : declination_by_other_rate south hundred ≢ dec_of south hundred
unfolding computed
declination_by_other_rate_excluded = apart of_rad refl

pub rate_over_cosine_excluded : rate_over_cosine south hundred ≢ asc_of south hundred
unfolding computed
rate_over_cosine_excluded = apart of_rad refl

pub rate_times_cosine_excluded : rate_times_cosine south hundred ≢ asc_of south hundred
unfolding computed
rate_times_cosine_excluded = apart of_rad refl

pub rate_in_degrees_excluded : rate_in_degrees south hundred ≢ asc_of south hundred
unfolding computed
rate_in_degrees_excluded = apart of_rad refl

pub declination_rate_in_degrees_excluded : declination_rate_in_degrees south hundred ≢ dec_of south hundred
unfolding computed
declination_rate_in_degrees_excluded = apart of_rad refl

pub rate_without_sign_excluded : rate_without_sign south hundred ≢ dec_of south hundred
unfolding computed
rate_without_sign_excluded = apart of_rad refl

pub rate_left_out_excluded : rate_left_out south hundred ≢ dec_of south hundred
unfolding computed
rate_left_out_excluded = apart of_rad refl

-- a century
pub short_year_excluded : short_year earlier epoch ≢ years_between earlier epoch
unfolding computed
short_year_excluded = apart of_float refl

pub centuries_for_years_excluded : centuries_for_years earlier epoch ≢ years_between earlier epoch
unfolding computed
centuries_for_years_excluded = apart of_float refl

pub years_backwards_excluded : years_backwards earlier epoch ≢ years_between earlier epoch
unfolding computed
years_backwards_excluded = apart of_float refl
