-- `text_residuals::quotient_of` meets its contract.
use mir.Facts.{to_z-of_z}
use Rattle.text_residuals.specs.rules.Sheet.{quotient_of}
use Rattle.text_residuals.proofs.quotient_of.Goals as goal

pub returns : goal.returns
unfolding quotient_of
returns c =
    rw (c.from_whole-2.ensures, c.size-2.ensures, c.from_whole.ensures, c.size.ensures, to_z-of_z c.ranges.n, to_z-of_z c.ranges.count)
