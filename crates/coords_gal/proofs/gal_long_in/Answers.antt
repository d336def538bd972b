-- `coords_gal::gal_long_in` meets its contract.
use Rattle.coords_gal.specs.rules.Galactic.{gal_long_in}
use Rattle.coords_gal.proofs.gal_long_in.Goals as goal

pub returns : goal.returns
unfolding gal_long_in
returns c =
    rw (c.round_pole.ensures, c.fold.ensures, c.from_pole_asc.ensures, c.radians.ensures) at c.taken_from.ensures
