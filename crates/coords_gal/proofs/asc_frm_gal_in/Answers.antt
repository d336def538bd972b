-- `coords_gal::asc_frm_gal_in` meets its contract.
use Rattle.coords_gal.specs.rules.Galactic.{asc_frm_gal_in}
use Rattle.coords_gal.proofs.asc_frm_gal_in.Goals as goal

pub returns : goal.returns
unfolding asc_frm_gal_in
returns c =
    rw (c.round_pole.ensures, c.fold.ensures, c.from_pole_long.ensures, c.radians.ensures) at c.added_to.ensures
