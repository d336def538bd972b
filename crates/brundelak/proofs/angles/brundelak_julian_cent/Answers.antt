-- `brundelak::angles::brundelak_julian_cent` meets its contract.
use Rattle.brundelak_handed.specs.laws.Boundary.{handed}
use Rattle.brundelak.proofs.angles.brundelak_julian_cent.Goals as goal

pub returns : goal.returns
returns c = handed c.julian_cent.ensures c.hand.ensures
