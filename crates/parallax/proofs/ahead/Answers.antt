-- `parallax::ahead` meets its contract.
use Rattle.parallax.specs.rules.Equatorial.{ahead}
use Rattle.parallax.proofs.ahead.Goals as goal

pub returns : goal.returns
unfolding ahead
returns c = rw (c.cosine-2.ensures, c.cosine.ensures)
