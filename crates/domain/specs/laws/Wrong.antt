-- Wrong statements are refuted: each fails at the input stated.
use Rattle.std.specs.Prelude.{ℕ, ◌≡◌, refl, T, pos, Float}
use Rattle.std.proofs.Common.{inl, inr}
use Rattle.std.specs.Float.{binary64}
use Rattle.std.specs.Float.Ieee.{neg, fits}
use Rattle.double.specs.rules.Operations.{bits, zero, half, one, ◌⊗◌}
use Rattle.double.specs.rules.Sign.{size}
use Rattle.double.specs.rules.Order.{◌≼◌, Finite, Between}
use Rattle.double.specs.rules.Table.{over}
use Rattle.double.specs.notions.Greatest.{greatest}
use Rattle.double.specs.notions.Code.{of_number}
use Rattle.double.specs.laws.Apart.{apart}
use Rattle.quantity.specs.declared.Deg.{Deg}
use Rattle.quantity.specs.declared.Rad.{Rad}
use Rattle.quantity.specs.declared.EclPoint.{EclPoint}
use Rattle.quantity.specs.declared.GeographPoint.{GeographPoint}
use Rattle.quantity.specs.rules.Angle.{HALF, rad}
use Rattle.quantity.specs.rules.Answer.{answered, refused, triple, status_of}
use Rattle.quantity.specs.rules.Refusal.{epoch}
use Rattle.helpers.specs.rules.Angle.{degrees_of_hour, limited}
use Rattle.helpers_earth.specs.rules.Earth.{rho_in}
use Rattle.edition.specs.declared.Edition.{Edition}
use Rattle.edition.specs.declared.Edition.TheVariants.{Crate, Published}
use Rattle.precess_angles.specs.rules.Days.{place_refusal}
use Rattle.precess.specs.rules.Equatorial.{precess_eq_coords_rule}
use Rattle.nutation_args.specs.rules.Sum.{summed, none}
use Rattle.nutation_args.specs.notions.Computed as nutation
use Rattle.nutation_table.specs.rules.Rows.{rows}
use Rattle.parallax.specs.rules.Observer.{centre_of, observer_refusal}
use Rattle.parallax_ecl.specs.rules.Ecliptic.{nearby, long_top, upward, lat_published, lat_top, semidiameter_in, ecliptic_from, ecliptic_along, ecliptic_at}
use Rattle.parallax_ecl.specs.rules.Ecliptic.{ecliptic_in, topopcent_refusal, topopcent_ecl_coords_rule}
use Rattle.atmos.specs.rules.Refraction.{refrac_frm_apprnt_alt_of, refrac_frm_true_alt_of, alt_refusal}
use Rattle.atmos.specs.notions.Computed as atmos
use Rattle.atmos.specs.notions.Stated.{lowest}
use Rattle.chain.specs.notions.Computed.{computed}
use Rattle.chain.specs.notions.Still.{still}
use Rattle.list.specs.declared.Star.{Star}
use Rattle.list.specs.rules.Record.{quarter, in_range}
use Rattle.star_store.specs.rules.Star.{star_refusal}
use Rattle.batch.specs.rules.Star.{star_under_by, star_under}
use Rattle.domain_accepted.specs.notions.Within.{Within}
use Rattle.domain.specs.notions.Nutation.{Moon, MoonNear}
use Rattle.domain.specs.notions.Wrong.{StatusFiveForFour, StatusThreeLeftOut}

-- 15.0 times the greatest double is infinite
pub hours_not_divided_excluded : ¬ ((x : Float) → T (fits binary64 x) → Finite x → Finite (degrees_of_hour ⊗ x))
unfolding computed fits
hours_not_divided_excluded wrong = wrong greatest tt tt

-- from 2451545.0 to 2465241.875, at the point that comes to the pole: an arcsine of the next double above 1.0
pub precession_never_meets_seven_excluded : ¬ ((e : Edition) (asc dec : Rad) (day1 day2 : Float) → place_refusal asc dec day1 day2 ≡ 0 → (n : ℕ) → precess_eq_coords_rule e asc dec day1 day2 ≡ refused n → n ≡ 6)
unfolding computed
precession_never_meets_seven_excluded wrong =
    apart of_number refl (wrong Crate (rad (bits 0xbf712cb6ca12d2de)) (rad (bits 0x3ff9130eb16ff8e6)) epoch (bits 0x4142ceecf0000000) refl 7 refl)

-- at altitude 0.0 refraction is above 34 minutes of arc, from the true altitude above 28
pub refraction_at_most_34_excluded : ¬ ((h : Deg) → alt_refusal h ≡ 0 → (refrac_frm_apprnt_alt_of h).0 ≼ over 34 1)
unfolding atmos.computed
refraction_at_most_34_excluded wrong = wrong lowest refl

pub true_refraction_at_most_28_excluded : ¬ ((h : Deg) → alt_refusal h ≡ 0 → (refrac_frm_true_alt_of h).0 ≼ over 28 1)
unfolding atmos.computed
true_refraction_at_most_28_excluded wrong = wrong lowest refl

-- seen from the equator a body at the parallax of a quarter turn: N is 1.0 − 1.0
abbrev point : EclPoint
point = record { long = zero; lat = zero }

abbrev place : GeographPoint
place = record { long = zero; lat = zero }

pub ecliptic_never_meets_six_excluded : (e : Edition) → ¬ ((q : EclPoint) (parallax : Rad) (place : GeographPoint) (height : Float) (sidereal oblq semidiameter : Rad) → topopcent_refusal q parallax place height sidereal oblq semidiameter ≡ 0 → (k : ℕ) → topopcent_ecl_coords_rule e q parallax place height sidereal oblq semidiameter ≡ refused k → k ≡ 7)
unfolding computed rho_in centre_of observer_refusal nearby ecliptic_at ecliptic_in
ecliptic_never_meets_six_excluded e wrong =
    apart of_number refl (wrong point (rad HALF) place zero (rad zero) (rad zero) (rad zero) refl 6 refl)

-- seen from there at the sidereal time 5/16 under the obliquity 1/2, a body at the parallax 17/1024: N is −2^−56, the longitude a quarter
-- turn to the last bit, and its cosine above zero, so that the published latitude is 3.13 radians
pub published_latitude_never_past_the_pole_excluded : ¬ ((q : EclPoint) (parallax : Rad) (place : GeographPoint) (height : Float) (sidereal oblq semidiameter : Rad) (a b c : Float) → topopcent_ecl_coords_rule Published q parallax place height sidereal oblq semidiameter ≡ answered (triple a b c) → size b ≼ HALF)
unfolding computed rho_in centre_of observer_refusal nearby long_top upward lat_published lat_top semidiameter_in ecliptic_from ecliptic_along ecliptic_at ecliptic_in limited
published_latitude_never_past_the_pole_excluded wrong =
    wrong (record { long = bits 0x3ff8e1468199cdec; lat = zero }) (rad (bits 0x3f91000000000000)) place zero (rad (bits 0x3fd4000000000000)) (rad half) (rad zero)
    HALF (bits 0x40090bdf4150a068) zero refl

-- the arguments all 0.0
abbrev moon : Moon
moon = record { t = zero; d = rad zero; m = rad zero; m1 = rad zero; f = rad zero; node = rad zero }

at_seven : Within 7 zero
unfolding computed
at_seven = record { start = tt; end = tt; finite = tt; from = tt; to = tt }

at_twenty : Within 20 zero
unfolding computed
at_twenty = record { start = tt; end = tt; finite = tt; from = tt; to = tt }

pub nutation_sums_are_zero_excluded : ¬ ((a : Moon) → MoonNear a → Between (neg zero) zero (summed rows a none).oblq.0)
unfolding nutation.computed
nutation_sums_are_zero_excluded wrong =
    (wrong moon (record { t = at_twenty; d = at_seven; m = at_seven; m1 = at_seven; f = at_seven; node = at_seven })).to

-- a star at the pole under a night in which nothing moves: 4
abbrev pole : Star
pole = record { number = 0; asc = 0; dec = pos quarter; asc_rate = pos 0; dec_rate = pos 0 }

pub status_five_for_four_excluded : ¬ StatusFiveForFour (status_of (star_under pole (still 0) zero))
unfolding computed star_under_by star_refusal in_range
status_five_for_four_excluded (inl e) = apart of_number refl e
status_five_for_four_excluded (inr (inl e)) = apart of_number refl e
status_five_for_four_excluded (inr (inr (inl e))) = apart of_number refl e
status_five_for_four_excluded (inr (inr (inr (inl e)))) = apart of_number refl e
status_five_for_four_excluded (inr (inr (inr (inr (inl e))))) = apart of_number refl e
status_five_for_four_excluded (inr (inr (inr (inr (inr e))))) = apart of_number refl e

-- the pole's star past it a year later: 3
abbrev past_the_pole : Star
past_the_pole = record { number = 0; asc = 0; dec = pos quarter; asc_rate = pos 0; dec_rate = pos 1 }

pub status_three_left_out_excluded : ¬ StatusThreeLeftOut (status_of (star_under past_the_pole (still 0) one))
unfolding computed star_under_by star_refusal in_range
status_three_left_out_excluded (inl e) = apart of_number refl e
status_three_left_out_excluded (inr (inl e)) = apart of_number refl e
status_three_left_out_excluded (inr (inr (inl e))) = apart of_number refl e
status_three_left_out_excluded (inr (inr (inr (inl e)))) = apart of_number refl e
status_three_left_out_excluded (inr (inr (inr (inr e)))) = apart of_number refl e
