-- `parallax::topocent_dec` meets its contract.
use Rattle.parallax.specs.rules.Equatorial.{topocent_dec}
use Rattle.parallax.proofs.topocent_dec.Goals as goal

pub returns : goal.returns
unfolding topocent_dec
returns c = rw (c.cosine.ensures, c.fold.ensures, c.sine.ensures) at c.arctangent_in.ensures
