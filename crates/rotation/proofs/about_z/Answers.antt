-- `rotation::about_z` meets its contract.
use Rattle.elementary.specs.rules.Sine.{sin_cos_of}
use Rattle.rotation.specs.rules.Turns.{about_z}
use Rattle.rotation.proofs.about_z.Goals as goal

pub returns : goal.returns
unfolding sin_cos_of about_z
returns c = rw c.sin_cos_of-t.ensures
