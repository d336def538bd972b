-- `rotation::row_times` meets its contract.
use Rattle.rotation.specs.rules.Matrix.{row_times}
use Rattle.rotation.proofs.row_times.Goals as goal

pub returns : goal.returns
unfolding row_times
returns c =
    rw (c.summed.ensures, c.summed-2.ensures, c.summed-3.ensures)
