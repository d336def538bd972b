-- Wrong variants are excluded: each differs from the rule at the input stated. A rule varies.
use Rattle.std.specs.Prelude.{refl, Float, ◌≢◌}
use Rattle.std.specs.Float.Ieee.{neg}
use Rattle.double.specs.rules.Operations.{bits, zero, one}
use Rattle.double.specs.laws.Apart.{apart}
use Rattle.quantity.specs.rules.Angle.{rad}
use Rattle.quantity.specs.rules.Refusal.{epoch}
use Rattle.quantity.specs.notions.Code.{of_deg, of_rad, of_answer, unread}
use Rattle.quantity.specs.notions.Stated.{r0, r1, later}
use Rattle.quantity.specs.notions.Varies.{Varies}
use Rattle.nutation_args.specs.declared.Nutations.{Nutations}
use Rattle.sidereal.specs.rules.Mean.{mean_in_degrees, mean_of, mean_sidereal_rule}
use Rattle.sidereal.specs.rules.Apparent.{apparent_from}
use Rattle.sidereal.specs.notions.Computed.{computed}
use Rattle.sidereal.specs.notions.Wrong.{cube_added, square_first, not_folded, mean_of_any_day, mean_for_apparent, by_sine, by_mean_obliquity, share_not_folded}

-- ---- mean

pub mean_sidereal_varies : Varies (mean_sidereal_rule later) (mean_sidereal_rule epoch)
unfolding computed
mean_sidereal_varies = record { here = refl; there = refl; apart = apart (of_answer of_rad) refl }

-- no days, and one century
pub cube_added_excluded : cube_added zero one ≢ mean_in_degrees zero one
unfolding computed
cube_added_excluded = apart of_deg refl

-- no days, and 23 centuries
pub square_first_excluded : square_first zero (bits 0x4037000000000000) ≢ mean_in_degrees zero (bits 0x4037000000000000)
unfolding computed
square_first_excluded = apart of_deg refl

pub not_folded_excluded : not_folded later ≢ mean_of later
unfolding computed
not_folded_excluded = apart of_rad refl

pub mean_of_any_day_excluded : mean_of_any_day zero ≢ mean_sidereal_rule zero
unfolding computed
mean_of_any_day_excluded = apart (of_answer unread) refl

-- ---- apparent

-- nutation of 1.0 in longitude and in obliquity, or of −1.0 in longitude
abbrev shifted : Float → Nutations
shifted x = record { long = rad x; oblq = r1 }

pub mean_for_apparent_excluded : mean_for_apparent r1 (shifted one) r1 ≢ apparent_from r1 (shifted one) r1
unfolding computed
mean_for_apparent_excluded = apart of_rad refl

pub by_sine_excluded : by_sine r1 (shifted one) r1 ≢ apparent_from r1 (shifted one) r1
unfolding computed
by_sine_excluded = apart of_rad refl

pub by_mean_obliquity_excluded : by_mean_obliquity r1 (shifted one) r1 ≢ apparent_from r1 (shifted one) r1
unfolding computed
by_mean_obliquity_excluded = apart of_rad refl

-- cos 1.0, taken away from 0.0
pub share_not_folded_excluded : share_not_folded r0 (record { long = rad (neg one); oblq = r1 }) r0
    ≢ apparent_from r0 (record { long = rad (neg one); oblq = r1 }) r0
unfolding computed
share_not_folded_excluded = apart of_rad refl
