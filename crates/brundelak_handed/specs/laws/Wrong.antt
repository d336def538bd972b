-- Wrong variants are excluded: each differs from the rule at the input stated. A rule varies: a library that refuses everything, or
-- answers a constant, does not meet it.
use Rattle.std.specs.Prelude.{refl, Float, ◌≢◌}
use Rattle.double.specs.rules.Operations.{zero, one}
use Rattle.double.specs.rules.Pattern.{pattern_of}
use Rattle.double.specs.notions.Code.{of_number}
use Rattle.double.specs.laws.Apart.{apart}
use Rattle.quantity.specs.declared.Deg.{Deg}
use Rattle.quantity.specs.declared.Rad.{Rad}
use Rattle.quantity.specs.declared.EqPoint.{EqPoint}
use Rattle.quantity.specs.declared.EclPoint.{EclPoint}
use Rattle.quantity.specs.rules.Answer.{Answer, answered, refused, pair}
use Rattle.quantity.specs.notions.Computed.{computed}
use Rattle.quantity.specs.notions.Code.{of_float, of_pair, of_answer}
use Rattle.quantity.specs.notions.Varies.{Varies}
use Rattle.atmos.specs.declared.Arcmin.{Arcmin}
use Rattle.brundelak_handed.specs.rules.Boundary.{Handed, HandedBits, HandedTwo, HandedThree, number_of_degrees, number_of_radians, number_of_arcminutes, numbers_of_point, numbers_of_ecliptic}
use Rattle.brundelak_handed.specs.notions.Wrong.{degrees_lost, radians_refused_as_one, arcminutes_in_degrees, point_traded, ecliptic_traded}

abbrev degrees : Float → Answer Deg
degrees x = answered (record { 0 = x })

abbrev radians : Float → Answer Rad
radians x = answered (record { 0 = x })

abbrev arcminutes : Float → Answer Arcmin
arcminutes x = answered (record { 0 = x })

abbrev point : Float → Float → Answer EqPoint
point x y = answered (record { asc = x; dec = y })

abbrev ecliptic : Float → Float → Answer EclPoint
ecliptic x y = answered (record { long = x; lat = y })

pub degrees_number_varies : Varies (number_of_degrees (degrees one)) (number_of_degrees (degrees zero))
unfolding computed number_of_degrees
degrees_number_varies = record { here = refl; there = refl; apart = apart (of_answer of_float) refl }

pub degrees_lost_excluded : degrees_lost (degrees one) ≢ number_of_degrees (degrees one)
unfolding computed number_of_degrees
degrees_lost_excluded = apart (of_answer of_float) refl

pub radians_number_varies : Varies (number_of_radians (radians one)) (number_of_radians (radians zero))
unfolding computed number_of_radians
radians_number_varies = record { here = refl; there = refl; apart = apart (of_answer of_float) refl }

pub radians_refused_as_one_excluded : radians_refused_as_one (refused 3) ≢ number_of_radians (refused 3)
unfolding computed number_of_radians
radians_refused_as_one_excluded = apart (of_answer of_float) refl

pub arcminutes_number_varies : Varies (number_of_arcminutes (arcminutes one)) (number_of_arcminutes (arcminutes zero))
unfolding computed number_of_arcminutes
arcminutes_number_varies = record { here = refl; there = refl; apart = apart (of_answer of_float) refl }

pub arcminutes_in_degrees_excluded : arcminutes_in_degrees (arcminutes one) ≢ number_of_arcminutes (arcminutes one)
unfolding computed number_of_arcminutes
arcminutes_in_degrees_excluded = apart (of_answer of_float) refl

pub point_numbers_varies : Varies (numbers_of_point (point one zero)) (numbers_of_point (point zero one))
unfolding computed numbers_of_point
point_numbers_varies = record { here = refl; there = refl; apart = apart (of_answer of_pair) refl }

pub point_traded_excluded : point_traded (point one zero) ≢ numbers_of_point (point one zero)
unfolding computed numbers_of_point
point_traded_excluded = apart (of_answer of_pair) refl

pub ecliptic_numbers_varies : Varies (numbers_of_ecliptic (ecliptic one zero)) (numbers_of_ecliptic (ecliptic zero one))
unfolding computed numbers_of_ecliptic
ecliptic_numbers_varies = record { here = refl; there = refl; apart = apart (of_answer of_pair) refl }

pub ecliptic_traded_excluded : ecliptic_traded (ecliptic one zero) ≢ numbers_of_ecliptic (ecliptic one zero)
unfolding computed numbers_of_ecliptic
ecliptic_traded_excluded = apart (of_answer of_pair) refl

-- 1.0 is answered, and 0.0 stands there
pub nothing_handed_out_excluded : ¬ Handed (answered one) 0 0 0
unfolding computed
nothing_handed_out_excluded wrong = apart of_number refl wrong.leaves

-- of bits that are answered too
pub no_bits_handed_out_excluded : ¬ HandedBits (answered 7) 0 0 0
no_bits_handed_out_excluded wrong = apart of_number refl wrong.leaves

pub both_traded_excluded : ¬ HandedTwo (answered (pair one zero)) 0 0 0 (pattern_of zero) (pattern_of one)
unfolding computed
both_traded_excluded wrong = apart of_number refl wrong.leaves1

pub refusal_says_done_excluded : ¬ HandedThree (refused 5) 0 7 8 9 7 8 9
refusal_says_done_excluded wrong = apart of_number refl wrong.answers

-- a NaN that a caller left, signalling and of the number 1, and a refused call leaves the quiet one
pub nan_tidied_excluded : ¬ Handed (refused 1) 1 0x7ff0000000000001 0x7ff8000000000000
nan_tidied_excluded wrong = apart of_number refl wrong.leaves
