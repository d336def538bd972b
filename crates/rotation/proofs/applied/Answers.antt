-- `rotation::applied` meets its contract.
use Rattle.rotation.specs.rules.Matrix.{applied}
use Rattle.rotation.proofs.applied.Goals as goal

pub returns : goal.returns
unfolding applied
returns c =
    rw (c.summed.ensures, c.summed-2.ensures, c.summed-3.ensures)
