-- `parallax::eastward` meets its contract.
use Rattle.parallax.specs.rules.Equatorial.{eastward}
use Rattle.parallax.proofs.eastward.Goals as goal

pub returns : goal.returns
unfolding eastward
returns c = rw c.sine.ensures
