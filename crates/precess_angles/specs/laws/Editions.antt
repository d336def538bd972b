-- In the crate's edition the angles are those of before; in the published one they are Meeus's.
use Rattle.std.specs.Prelude.{◌≡◌, Float}
use Rattle.std.proofs.Math.Path.{refl}
use Rattle.edition.specs.declared.Edition.TheVariants.{Crate, Published}
use Rattle.helpers.specs.rules.Angle.{radians_of}
use Rattle.precess_angles.specs.rules.Equatorial.{eq_zeta, eq_theta, eq_angles_of}
use Rattle.precess_angles.specs.rules.Fk4.{degrees_as_radians, fk4_angle, fk4_angles_of}
use Rattle.precess_angles.specs.notions.Editions.{zeta_of_crate, zeta_published, theta_of_crate, theta_published, angles_by, fk4_angles_by}

module _ (day1 day2 : Float) where
  pub eq_angles_of_crate : eq_angles_of Crate day1 day2 ≡ angles_by zeta_of_crate theta_of_crate day1 day2
  unfolding eq_angles_of eq_zeta eq_theta
  eq_angles_of_crate = refl

  pub eq_angles_published : eq_angles_of Published day1 day2 ≡ angles_by zeta_published theta_published day1 day2
  unfolding eq_angles_of eq_zeta eq_theta
  eq_angles_published = refl

  pub fk4_angles_of_crate : fk4_angles_of Crate day1 day2 ≡ fk4_angles_by degrees_as_radians day1 day2
  unfolding fk4_angles_of fk4_angle
  fk4_angles_of_crate = refl

  pub fk4_angles_published : fk4_angles_of Published day1 day2 ≡ fk4_angles_by radians_of day1 day2
  unfolding fk4_angles_of fk4_angle
  fk4_angles_published = refl
