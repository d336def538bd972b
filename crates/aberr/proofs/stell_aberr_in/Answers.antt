-- `aberr::stell_aberr_in` meets its contract.
use Rattle.aberr.specs.rules.Star.{stell_aberr_in_eq_coords_in}
use Rattle.aberr.proofs.stell_aberr_in.Goals as goal

pub returns : goal.returns
unfolding stell_aberr_in_eq_coords_in
returns c = rw (c.velocity_on.ensures, c.toward.ensures) at c.aberr_at.ensures
