-- `parallax::centre_of` meets its contract.
use Rattle.parallax.specs.rules.Observer.{centre_of}
use Rattle.parallax.proofs.centre_of.Goals as goal

pub returns : goal.returns
unfolding centre_of
returns c = rw (c.sine.ensures, c.fold.ensures)
