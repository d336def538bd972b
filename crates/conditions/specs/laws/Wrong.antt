-- Wrong statements of the conditions are excluded: each fails at the input stated.
use Rattle.std.specs.Prelude.{◌≡◌, refl, false, Float, ◌≢◌}
use Rattle.std.specs.Float.Ieee.{neg}
use Rattle.double.specs.rules.Operations.{bits, zero, half, ◌⊖◌}
use Rattle.double.specs.rules.Sign.{bears_minus, size}
use Rattle.double.specs.rules.Order.{◌≼◌, NonZero}
use Rattle.double.specs.notions.Stated.{minus_zero}
use Rattle.double.specs.laws.Apart.{apart}
use Rattle.quantity.specs.declared.Rad.{Rad}
use Rattle.quantity.specs.rules.Angle.{rad, PI, HALF, QUARTER, opposite}
use Rattle.quantity.specs.rules.Answer.{answered, with}
use Rattle.quantity.specs.notions.Code.{of_float, of_rad, of_triple, of_answer}
use Rattle.quantity.specs.notions.Stated.{r0, r½, r1}
use Rattle.elementary_arc.specs.notions.Computed.{computed}
use Rattle.coords.specs.rules.Horizon.{southward, azimuth_in, az_frm_eq_rule, altitude_in, alt_frm_eq_rule}
use Rattle.coords_ecl.specs.rules.Point.{point_of}
use Rattle.coords_ecl.specs.rules.Ecliptic.{longitude_sum, longitude_in, latitude_sum, latitude_in, ecl_frm_eq_in, ecl_frm_eq_rule}
use Rattle.coords_ecl.specs.notions.Code.{of_ecl_point}
use Rattle.transit.specs.rules.RiseCulmSet.{rise_culm_set_rule}
use Rattle.transit.specs.notions.Stated.{north_of_it}
use Rattle.transit.specs.notions.Computed as transit
use Rattle.conditions.specs.notions.Mirror.{opposite_point}

abbrev m0 : Rad
m0 = rad minus_zero

-- ---- azimuth

pub south_within_less_than_a_quarter_turn_excluded : ¬ ((h d p : Rad) (v : Rad) → az_frm_eq_rule h d p ≡ answered v → bears_minus (southward h d p) ≡ false → size v.0 ≼ QUARTER)
unfolding computed azimuth_in
south_within_less_than_a_quarter_turn_excluded wrong = wrong r½ r0 r0 (rad HALF) refl refl

pub hour_mirror_keeps_the_sign_excluded : ¬ ((h d p : Rad) → az_frm_eq_rule (opposite h) d p ≡ az_frm_eq_rule h d p)
unfolding computed azimuth_in
hour_mirror_keeps_the_sign_excluded wrong = apart (of_answer of_rad) refl (wrong r0 r½ r0)

-- the azimuths 0.5758289495618063 and 2.5657637040279866: PI less the second is 0.5758289495618065
pub declination_size_on_the_other_side_excluded : ¬ ((h d p : Rad) → NonZero (southward h d p) → (v w : Rad) → az_frm_eq_rule h d p ≡ answered v → az_frm_eq_rule h (opposite d) (opposite p) ≡ answered w → bears_minus (southward h d p) ≡ false → size v.0 ≡ PI ⊖ size w.0)
unfolding computed azimuth_in
declination_size_on_the_other_side_excluded wrong =
    apart of_float refl (wrong r½ r0 r1 tt (rad (bits 0x3fe26d30d54ea7de)) (rad (bits 0x400486af1ef08320)) refl refl refl)

pub sky_sheet_mirrored_excluded : az_frm_eq_rule m0 r½ r0 ≢ answered (rad PI)
unfolding computed azimuth_in
sky_sheet_mirrored_excluded = apart (of_answer of_rad) refl

-- ---- altitude

pub altitude_negates_with_the_hour_excluded : ¬ ((h d p : Rad) → alt_frm_eq_rule (opposite h) d p ≡ with opposite (alt_frm_eq_rule h d p))
unfolding computed altitude_in
altitude_negates_with_the_hour_excluded wrong = apart (of_answer of_rad) refl (wrong r0 r0 r0)

pub altitude_with_latitude_alone_negated_excluded : ¬ ((h d p : Rad) → alt_frm_eq_rule h (opposite d) (opposite p) ≡ alt_frm_eq_rule h d (opposite p))
unfolding computed altitude_in
altitude_with_latitude_alone_negated_excluded wrong = apart (of_answer of_rad) refl (wrong r0 r½ r½)

pub altitude_within_less_than_a_quarter_turn_excluded : ¬ ((h d p : Rad) (v : Rad) → alt_frm_eq_rule h d p ≡ answered v → size v.0 ≼ QUARTER)
unfolding computed altitude_in
altitude_within_less_than_a_quarter_turn_excluded wrong = wrong r0 r0 r0 (rad HALF) refl

-- ---- ecliptic longitude and latitude

-- one of the sums is zero, and its angle stays +0
pub mirror_of_a_zero_latitude_sum_excluded : ¬ ((a d e : Rad) → NonZero (longitude_sum a d e) → ecl_frm_eq_rule (opposite a) (opposite d) e ≡ with opposite_point (ecl_frm_eq_rule a d e))
unfolding computed point_of longitude_in latitude_in ecl_frm_eq_in
mirror_of_a_zero_latitude_sum_excluded wrong = apart (of_answer of_ecl_point) refl (wrong r½ r0 r0 tt)

pub mirror_of_a_zero_longitude_sum_excluded : ¬ ((a d e : Rad) → NonZero (latitude_sum a d e) → ecl_frm_eq_rule (opposite a) (opposite d) e ≡ with opposite_point (ecl_frm_eq_rule a d e))
unfolding computed point_of longitude_in latitude_in ecl_frm_eq_in
mirror_of_a_zero_longitude_sum_excluded wrong = apart (of_answer of_ecl_point) refl (wrong m0 r½ r0 tt)

-- ---- rise, culmination and set

-- a star at right ascension 0, seen from latitude 1.0
pub rise_with_declination_alone_negated_excluded : ¬ ((dec : Float) → rise_culm_set_rule (record { asc = zero; dec = neg dec }) r0 north_of_it r0
    ≡ rise_culm_set_rule (record { asc = zero; dec = dec }) r0 north_of_it r0)
unfolding transit.computed
rise_with_declination_alone_negated_excluded wrong = apart (of_answer of_triple) refl (wrong half)
