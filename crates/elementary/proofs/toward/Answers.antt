-- `elementary::toward` meets its contract.
use Rattle.elementary.specs.rules.Direction.{direction_of}
use Rattle.elementary.specs.rules.Sine.{two_sin_cos_of}
use Rattle.elementary.proofs.toward.Goals as goal

pub returns : goal.returns
unfolding direction_of two_sin_cos_of
returns c = rw c.two_sin_cos_of-t.ensures
