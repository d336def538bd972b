-- Wrong variants are excluded: each differs from the rule at the input stated. A rule varies: a library that refuses everything, or
-- answers a constant, does not meet it.
use Rattle.std.specs.Prelude.{◌≡◌, refl, false, T, ◌≢◌, Result}
use Rattle.std.proofs.Common.{sym, ap, subst, ◌∙◌}
use Rattle.double.specs.laws.Apart.{apart}
use Rattle.quantity.specs.declared.Rad.{Rad}
use Rattle.quantity.specs.declared.Refusal.{Refusal}
use Rattle.quantity.specs.rules.Angle.{HALF, rad}
use Rattle.quantity.specs.rules.Answer.{shown}
use Rattle.quantity.specs.notions.Code.{of_rad, of_answer}
use Rattle.quantity.specs.notions.Varies.{is_answered, Varies}
use Rattle.quantity.specs.notions.Stated.{r0, r½, r1, r2}
use Rattle.quantity.specs.laws.Varies.{does_not_refuse, is_not_constant}
use Rattle.edition.specs.declared.Edition.{Edition}
use Rattle.edition.specs.declared.Edition.TheVariants.{Crate, Published}
use Rattle.elementary_arc.specs.notions.Computed.{computed}
use Rattle.coords.specs.rules.HourAngle.{hr_angl_frm_observer_long_rule, hr_angl_frm_loc_sidr_rule}
use Rattle.coords.specs.rules.Horizon.{azimuth_in, az_frm_eq_rule, altitude_in, alt_frm_eq_rule, hr_angl_frm_hz_in, hr_angl_frm_hz_rule, dec_frm_hz_in, dec_frm_hz_rule}
use Rattle.coords.specs.notions.Wrong.{longitude_added, local_time_negated, opposite_quadrant, sine_and_cosine_traded, hour_angle_reduced_first}
use Rattle.coords.specs.notions.Wrong.{latitude_for_declination, declination_not_steep, zenith_is_south, altitude_regrouped}
use Rattle.coords.specs.notions.Wrong.{limit_of_an_angle_for_a_latitude, hour_angle_of_the_ratio, cosine_of_azimuth_once}

-- ---- hour angles

pub hr_angl_frm_observer_long_varies : Varies (hr_angl_frm_observer_long_rule r1 r0 r0) (hr_angl_frm_observer_long_rule r0 r0 r0)
unfolding computed
hr_angl_frm_observer_long_varies = record { here = refl; there = refl; apart = apart (of_answer of_rad) refl }

pub longitude_added_excluded : longitude_added r2 r1 r0 ≢ hr_angl_frm_observer_long_rule r2 r1 r0
unfolding computed
longitude_added_excluded = apart (of_answer of_rad) refl

pub hr_angl_frm_loc_sidr_varies : Varies (hr_angl_frm_loc_sidr_rule r1 r0) (hr_angl_frm_loc_sidr_rule r0 r0)
unfolding computed
hr_angl_frm_loc_sidr_varies = record { here = refl; there = refl; apart = apart (of_answer of_rad) refl }

pub local_time_negated_excluded : local_time_negated r2 r1 ≢ hr_angl_frm_loc_sidr_rule r2 r1
unfolding computed
local_time_negated_excluded = apart (of_answer of_rad) refl

-- ---- azimuth

pub az_frm_eq_varies : Varies (az_frm_eq_rule r½ r0 r0) (az_frm_eq_rule r0 r½ r0)
unfolding computed azimuth_in
az_frm_eq_varies = record { here = refl; there = refl; apart = apart (of_answer of_rad) refl }

-- of any function that meets the promise
module _ (f : Rad → Rad → Rad → Result Rad Refusal) (meets : (h d p : Rad) → shown (f h d p) ≡ az_frm_eq_rule h d p) where
  pub everything_refused_excluded : ¬ ((h d p : Rad) → is_answered (shown (f h d p)) ≡ false)
  everything_refused_excluded wrong =
      subst T (sym (does_not_refuse az_frm_eq_varies (meets r½ r0 r0)) ∙ wrong r½ r0 r0) tt

  pub azimuth_answers_a_constant_excluded : (c : Result Rad Refusal) → ¬ ((h d p : Rad) → f h d p ≡ c)
  azimuth_answers_a_constant_excluded c wrong =
      is_not_constant az_frm_eq_varies (meets r½ r0 r0) (meets r0 r½ r0) (ap shown (wrong r½ r0 r0 ∙ sym (wrong r0 r½ r0)))

pub opposite_quadrant_excluded : opposite_quadrant r0 r½ r0 ≢ az_frm_eq_rule r0 r½ r0
unfolding computed azimuth_in
opposite_quadrant_excluded = apart (of_answer of_rad) refl

pub sine_and_cosine_traded_excluded : sine_and_cosine_traded r½ r½ r0 ≢ az_frm_eq_rule r½ r½ r0
unfolding computed azimuth_in
sine_and_cosine_traded_excluded = apart (of_answer of_rad) refl

pub hour_angle_reduced_first_excluded : hour_angle_reduced_first r0 r½ r0 ≢ az_frm_eq_rule r0 r½ r0
unfolding computed azimuth_in
hour_angle_reduced_first_excluded = apart (of_answer of_rad) refl

pub latitude_for_declination_excluded : latitude_for_declination r0 r½ r0 ≢ az_frm_eq_rule r0 r½ r0
unfolding computed azimuth_in
latitude_for_declination_excluded = apart (of_answer of_rad) refl

pub declination_not_steep_excluded : declination_not_steep r0 (rad HALF) r0 ≢ az_frm_eq_rule r0 (rad HALF) r0
unfolding computed azimuth_in
declination_not_steep_excluded = apart (of_answer of_rad) refl

-- at the zenith of the equator
pub zenith_is_south_excluded : zenith_is_south r0 r0 r0 ≢ az_frm_eq_rule r0 r0 r0
unfolding computed azimuth_in
zenith_is_south_excluded = apart (of_answer of_rad) refl

-- ---- altitude

pub alt_frm_eq_varies : Varies (alt_frm_eq_rule r½ r0 r0) (alt_frm_eq_rule r0 r0 r0)
unfolding computed altitude_in
alt_frm_eq_varies = record { here = refl; there = refl; apart = apart (of_answer of_rad) refl }

pub altitude_regrouped_excluded : altitude_regrouped r½ r½ r1 ≢ alt_frm_eq_rule r½ r½ r1
unfolding computed altitude_in
altitude_regrouped_excluded = apart (of_answer of_rad) refl

pub limit_of_an_angle_for_a_latitude_excluded : limit_of_an_angle_for_a_latitude r0 r0 r2 ≢ alt_frm_eq_rule r0 r0 r2
unfolding computed altitude_in
limit_of_an_angle_for_a_latitude_excluded = apart (of_answer of_rad) refl

-- ---- from horizontal coordinates

pub hr_angl_frm_hz_varies : Varies (hr_angl_frm_hz_rule r½ r0 r0) (hr_angl_frm_hz_rule r0 r½ r0)
unfolding computed hr_angl_frm_hz_in
hr_angl_frm_hz_varies = record { here = refl; there = refl; apart = apart (of_answer of_rad) refl }

pub hour_angle_of_the_ratio_excluded : hour_angle_of_the_ratio r2 r0 r1 ≢ hr_angl_frm_hz_rule r2 r0 r1
unfolding computed hr_angl_frm_hz_in
hour_angle_of_the_ratio_excluded = apart (of_answer of_rad) refl

pub dec_frm_hz_varies : (e : Edition) → Varies (dec_frm_hz_rule e r½ r0 r0) (dec_frm_hz_rule e r0 r0 r0)
unfolding computed dec_frm_hz_in
dec_frm_hz_varies Crate = record { here = refl; there = refl; apart = apart (of_answer of_rad) refl }
dec_frm_hz_varies Published = record { here = refl; there = refl; apart = apart (of_answer of_rad) refl }

-- an edition ignored
pub dec_frm_hz_by_edition : dec_frm_hz_rule Published r½ r0 r0 ≢ dec_frm_hz_rule Crate r½ r0 r0
unfolding computed dec_frm_hz_in
dec_frm_hz_by_edition = apart (of_answer of_rad) refl

pub cosine_of_azimuth_once_excluded : (e : Edition) → cosine_of_azimuth_once r½ r½ r0 ≢ dec_frm_hz_rule e r½ r½ r0
unfolding computed dec_frm_hz_in
cosine_of_azimuth_once_excluded Crate = apart (of_answer of_rad) refl
cosine_of_azimuth_once_excluded Published = apart (of_answer of_rad) refl
