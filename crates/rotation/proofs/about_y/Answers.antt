-- `rotation::about_y` meets its contract.
use Rattle.elementary.specs.rules.Sine.{sin_cos_of}
use Rattle.rotation.specs.rules.Turns.{about_y}
use Rattle.rotation.proofs.about_y.Goals as goal

pub returns : goal.returns
unfolding sin_cos_of about_y
returns c = rw c.sin_cos_of-t.ensures
