-- `text_residuals::root_size` meets its contract.
use mir.Facts.{to_z-of_z}
use Rattle.text_residuals.proofs.root_size.Goals as goal

pub returns : goal.returns
returns c =
    rw (
      c.nearest_whole.ensures,
      c.root_of.ensures,
      c.quotient_of.ensures,
      to_z-of_z c.ranges.squares,
      to_z-of_z c.ranges.count,
    )
