-- `elementary::towards` meets its contract.
use Rattle.elementary.specs.rules.Direction.{direction_of, directions_of}
use Rattle.elementary.specs.rules.Sine.{two_sin_cos_of}
use Rattle.elementary.proofs.towards.Goals as goal

pub returns : goal.returns
unfolding directions_of direction_of two_sin_cos_of
returns c = rw (c.two_sin_cos_of-d.ensures, c.two_sin_cos_of-a.ensures)
