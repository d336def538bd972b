-- `parallax::sun_parallax` meets its contract.
use Rattle.parallax.specs.rules.Horizontal.{sun_parallax}
use Rattle.parallax.proofs.sun_parallax.Goals as goal

pub returns : goal.returns
unfolding sun_parallax
returns c = rw (c.fold.ensures, c.radians.ensures) at c.sine.ensures
