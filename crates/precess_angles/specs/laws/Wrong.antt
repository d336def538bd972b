-- Wrong variants are excluded: each differs from the rule at the input stated.
use Rattle.std.specs.Prelude.{ℕ, refl, ◌≢◌}
use Rattle.double.specs.laws.Apart.{apart}
use Rattle.quantity.specs.rules.Refusal.{epoch}
use Rattle.quantity.specs.notions.Code.{of_rad}
use Rattle.quantity.specs.notions.Stated.{earlier}
use Rattle.edition.specs.declared.Edition.{Edition}
use Rattle.edition.specs.declared.Edition.TheVariants.{Crate, Published}
use Rattle.precess_angles.specs.declared.EqAngles.{EqAngles}
use Rattle.precess_angles.specs.rules.Equatorial.{eq_angles_of}
use Rattle.precess_angles.specs.rules.Fk4.{fk4_angles_of}
use Rattle.precess_angles.specs.notions.Computed.{computed}
use Rattle.precess_angles.specs.notions.Wrong.{one_sign_of_each, span_backward, fk4_angles_of_each, fk4_zeta_from_converted_xi}

-- one of the angles, as a number
abbrev of_xi : EqAngles → ℕ
of_xi a = of_rad a.xi

abbrev of_zeta : EqAngles → ℕ
of_zeta a = of_rad a.zeta

abbrev of_theta : EqAngles → ℕ
of_theta a = of_rad a.theta

-- ---- equatorial precession

-- Meeus's sign in the second angle only, or in the third only, is neither edition
pub sign_of_zeta_only_excluded : (e : Edition) → one_sign_of_each Published Crate earlier epoch ≢ eq_angles_of e earlier epoch
unfolding computed
sign_of_zeta_only_excluded Crate = apart of_zeta refl
sign_of_zeta_only_excluded Published = apart of_theta refl

pub sign_of_theta_only_excluded : (e : Edition) → one_sign_of_each Crate Published earlier epoch ≢ eq_angles_of e earlier epoch
unfolding computed
sign_of_theta_only_excluded Crate = apart of_theta refl
sign_of_theta_only_excluded Published = apart of_zeta refl

pub span_backward_excluded : span_backward Crate earlier epoch ≢ eq_angles_of Crate earlier epoch
unfolding computed
span_backward_excluded = apart of_xi refl

-- ---- the FK4 system

-- the third angle converted in the crate's edition, or taken for radians in the published one
pub fk4_third_angle_converted_excluded : fk4_angles_of_each Crate Published earlier epoch ≢ fk4_angles_of Crate earlier epoch
unfolding computed
fk4_third_angle_converted_excluded = apart of_theta refl

pub fk4_third_angle_in_degrees_excluded : fk4_angles_of_each Published Crate earlier epoch ≢ fk4_angles_of Published earlier epoch
unfolding computed
fk4_third_angle_in_degrees_excluded = apart of_theta refl

pub fk4_zeta_from_a_converted_xi_excluded : fk4_zeta_from_converted_xi Published earlier epoch ≢ fk4_angles_of Published earlier epoch
unfolding computed
fk4_zeta_from_a_converted_xi_excluded = apart of_zeta refl
