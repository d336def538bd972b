-- `parallax::eq_hz_parallax_in` meets its contract.
use Rattle.parallax.specs.rules.Horizontal.{eq_hz_parallax_in}
use Rattle.parallax.proofs.eq_hz_parallax_in.Goals as goal

pub returns : goal.returns
unfolding eq_hz_parallax_in
returns c = rw c.sun_parallax.ensures at c.arcsine_in.ensures
