-- `coords_gal::gal_lat_in` meets its contract.
use Rattle.coords_gal.specs.rules.Galactic.{gal_lat_in}
use Rattle.coords_gal.proofs.gal_lat_in.Goals as goal

pub returns : goal.returns
unfolding gal_lat_in
returns c =
    rw (c.cosine-3.ensures, c.cosine-2.ensures, c.cosine.ensures, c.sine-2.ensures, c.sine.ensures, c.fold-d.ensures, c.pole-p.ensures, c.from_pole_asc-n.ensures) at c.arcsine_in.ensures
