-- `coords_ecl::ecl_frm_eq_in` meets its contract.
use Rattle.elementary.specs.rules.Sine.{sin_cos_of}
use Rattle.coords_ecl.specs.rules.Ecliptic.{longitude_in, latitude_in, ecl_frm_eq_in}
use Rattle.coords_ecl.proofs.ecl_frm_eq_in.Goals as goal

pub returns : goal.returns
unfolding ecl_frm_eq_in longitude_in latitude_in sin_cos_of
returns c =
    rw (c.both.ensures, c.arcsine_in.ensures, c.arctangent_in.ensures, c.sin_cos_of-d.ensures, c.sin_cos_of-e.ensures, c.sin_cos_of-a.ensures) at c.point_of.ensures
