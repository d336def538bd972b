-- In the crate's edition each rule is the one of before; in the published one it is Meeus's.
use Rattle.std.specs.Prelude.{◌≡◌, Float}
use Rattle.quantity.specs.declared.Rad.{Rad}
use Rattle.edition.specs.declared.Edition.TheVariants.{Crate, Published}
use Rattle.helpers.specs.rules.Angle.{radians_of}
use Rattle.precess_angles.specs.rules.Equatorial.{eq_precession_of}
use Rattle.precess_angles.specs.rules.Fk4.{degrees_as_radians, fk4_precession_of}
use Rattle.precess_angles.specs.notions.Editions.{zeta_of_crate, zeta_published, theta_of_crate, theta_published}
use Rattle.precess_angles.specs.laws.Editions.{eq_angles_of_crate, eq_angles_published, fk4_angles_of_crate, fk4_angles_published}
use Rattle.precess.specs.rules.Equatorial.{precess_eq_coords_rule, precess_eq_coords_FK5_rule}
use Rattle.precess.specs.notions.Editions.{precessed_by, fk4_precessed_by}

module _ (asc dec : Rad) (day1 day2 : Float) where
  pub precess_eq_coords_of_crate : precess_eq_coords_rule Crate asc dec day1 day2 ≡ precessed_by zeta_of_crate theta_of_crate asc dec day1 day2
  unfolding eq_precession_of
  precess_eq_coords_of_crate = rw (eq_angles_of_crate day1 day2)

  pub precess_eq_coords_published : precess_eq_coords_rule Published asc dec day1 day2 ≡ precessed_by zeta_published theta_published asc dec day1 day2
  unfolding eq_precession_of
  precess_eq_coords_published = rw (eq_angles_published day1 day2)

  pub precess_eq_coords_FK5_of_crate : precess_eq_coords_FK5_rule Crate asc dec day1 day2 ≡ fk4_precessed_by degrees_as_radians asc dec day1 day2
  unfolding fk4_precession_of
  precess_eq_coords_FK5_of_crate = rw (fk4_angles_of_crate day1 day2)

  pub precess_eq_coords_FK5_published : precess_eq_coords_FK5_rule Published asc dec day1 day2 ≡ fk4_precessed_by radians_of asc dec day1 day2
  unfolding fk4_precession_of
  precess_eq_coords_FK5_published = rw (fk4_angles_published day1 day2)
