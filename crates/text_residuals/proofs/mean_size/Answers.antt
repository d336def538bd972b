-- `text_residuals::mean_size` meets its contract.
use mir.Facts.{to_z-of_z}
use Rattle.text_residuals.proofs.mean_size.Goals as goal

pub returns : goal.returns
returns c =
    rw (c.nearest_whole.ensures, c.quotient_of.ensures, to_z-of_z c.ranges.sum, to_z-of_z c.ranges.count)
