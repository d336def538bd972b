-- Condition 3 of the functions: what holds of the rules holds of any answers that meet the functions' contracts.
use Rattle.std.specs.Prelude.{ℕ, ◌≡◌, true, false, Result, Ok, Err}
use Rattle.std.proofs.Common.{sym, ap, ◌∙◌}
use Rattle.double.specs.rules.Operations.{◌⊖◌}
use Rattle.double.specs.rules.Sign.{bears_minus, size}
use Rattle.double.specs.rules.Order.{◌≼◌, NonZero}
use Rattle.quantity.specs.declared.EclPoint.{EclPoint}
use Rattle.quantity.specs.declared.Refusal.{Refusal}
use Rattle.quantity.specs.declared.Rad.{Rad}
use Rattle.quantity.specs.rules.Angle.{PI, HALF, opposite}
use Rattle.quantity.specs.rules.Answer.{shown, with, number}
use Rattle.quantity.specs.laws.Answer.{carried, shown_loses_nothing}
use Rattle.elementary.specs.rules.Sine.{sine_of}
use Rattle.coords.specs.rules.Horizon.{southward, az_frm_eq_rule, alt_frm_eq_rule}
use Rattle.coords_ecl.specs.rules.Ecliptic.{longitude_sum, latitude_sum, ecl_frm_eq_rule}
use Rattle.conditions.specs.notions.Mirror.{opposite_point}
use Rattle.conditions.specs.laws.Answers.{answered_by, mirrored, unchanged}
use Rattle.conditions.specs.laws.Azimuth.{azimuth_sign, azimuth_at_most_quarter_turn, azimuth_at_least_quarter_turn}
use Rattle.conditions.specs.laws.HourAngle.{azimuth_hour, altitude_hour}
use Rattle.conditions.specs.laws.Declination.{altitude_declination, azimuth_refused_there, azimuth_refused_here, azimuth_sign_stays}
use Rattle.conditions.specs.laws.Declination.{azimuth_size_there, azimuth_size_here}
use Rattle.conditions.specs.laws.RightAscension.{ecliptic_mirror, ecliptic_refused_there, ecliptic_refused_here}

-- ---- azimuth answers v

module _ (h d p : Rad) (r : Result Rad Refusal) (v : Rad) (meets : shown r ≡ az_frm_eq_rule h d p) (is : r ≡ Ok v) where
  pub az_frm_eq_sign : bears_minus v.0 ≡ bears_minus (sine_of h)
  az_frm_eq_sign = azimuth_sign h d p v (answered_by meets is)

  pub az_frm_eq_south : bears_minus (southward h d p) ≡ false → size v.0 ≼ HALF
  az_frm_eq_south = azimuth_at_most_quarter_turn h d p v (answered_by meets is)

  pub az_frm_eq_north : bears_minus (southward h d p) ≡ true → HALF ≼ size v.0
  az_frm_eq_north = azimuth_at_least_quarter_turn h d p v (answered_by meets is)

-- ---- r is the answer, and s the answer in the mirror

module _ (h d p : Rad) (r s : Result Rad Refusal) where
  pub az_frm_eq_hour : shown r ≡ az_frm_eq_rule h d p → shown s ≡ az_frm_eq_rule (opposite h) d p
      → shown s ≡ with opposite (shown r)
  az_frm_eq_hour = mirrored opposite (azimuth_hour h d p) r s

  pub alt_frm_eq_hour : shown r ≡ alt_frm_eq_rule h d p → shown s ≡ alt_frm_eq_rule (opposite h) d p → s ≡ r
  alt_frm_eq_hour = unchanged (altitude_hour h d p) r s

  pub alt_frm_eq_declination : shown r ≡ alt_frm_eq_rule h d p → shown s ≡ alt_frm_eq_rule h (opposite d) (opposite p) → s ≡ r
  alt_frm_eq_declination = unchanged (altitude_declination h d p) r s

  -- refused alike
  module _ (meets : shown r ≡ az_frm_eq_rule h d p) (meets' : shown s ≡ az_frm_eq_rule h (opposite d) (opposite p)) (n : Refusal) where
    pub az_frm_eq_declination_refused_there : r ≡ Err n → s ≡ Err n
    az_frm_eq_declination_refused_there is =
        shown_loses_nothing s (Err n) (meets' ∙ azimuth_refused_there h d p (number n) (sym meets ∙ ap shown is))

    pub az_frm_eq_declination_refused_here : s ≡ Err n → r ≡ Err n
    az_frm_eq_declination_refused_here is =
        shown_loses_nothing r (Err n) (meets ∙ azimuth_refused_here h d p (number n) (sym meets' ∙ ap shown is))

  module _ (not_zero : NonZero (southward h d p)) (v w : Rad) (meets : shown r ≡ az_frm_eq_rule h d p) (is : r ≡ Ok v) (meets' : shown s ≡ az_frm_eq_rule h (opposite d) (opposite p)) (is' : s ≡ Ok w) where
    pub az_frm_eq_declination_sign : bears_minus w.0 ≡ bears_minus v.0
    az_frm_eq_declination_sign = azimuth_sign_stays h d p not_zero v w (answered_by meets is) (answered_by meets' is')

    pub az_frm_eq_declination_there : bears_minus (southward h d p) ≡ false → size w.0 ≡ PI ⊖ size v.0
    az_frm_eq_declination_there = azimuth_size_there h d p not_zero v w (answered_by meets is) (answered_by meets' is')

    pub az_frm_eq_declination_here : bears_minus (southward h d p) ≡ true → size v.0 ≡ PI ⊖ size w.0
    az_frm_eq_declination_here = azimuth_size_here h d p not_zero v w (answered_by meets is) (answered_by meets' is')

-- right ascension negated with declination
module _ (a d e : Rad) (r s : Result EclPoint Refusal) (meets : shown r ≡ ecl_frm_eq_rule a d e) (meets' : shown s ≡ ecl_frm_eq_rule (opposite a) (opposite d) e) where
  pub ecl_frm_eq_mirror : NonZero (longitude_sum a d e) → NonZero (latitude_sum a d e)
      → shown s ≡ with opposite_point (shown r)
  ecl_frm_eq_mirror not_zero not-zero' =
      carried shown (with opposite_point) r s meets meets' (ecliptic_mirror a d e not_zero not-zero')

  -- refused alike
  pub ecl_frm_eq_refused_there : (n : Refusal) → r ≡ Err n → s ≡ Err n
  ecl_frm_eq_refused_there n is =
      shown_loses_nothing s (Err n) (meets' ∙ ecliptic_refused_there a d e (number n) (sym meets ∙ ap shown is))

  pub ecl_frm_eq_refused_here : (n : Refusal) → s ≡ Err n → r ≡ Err n
  ecl_frm_eq_refused_here n is =
      shown_loses_nothing r (Err n) (meets ∙ ecliptic_refused_here a d e (number n) (sym meets' ∙ ap shown is))
