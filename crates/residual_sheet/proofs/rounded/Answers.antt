-- `residual_sheet::rounded` meets its contract.
use Rattle.residual_sheet.specs.rules.Residual.{rounded}
use Rattle.residual_sheet.proofs.rounded.Goals as goal

pub returns : goal.returns
unfolding rounded
returns c =
    rw (c.has_minus.ensures, c.nearest_whole-n.ensures, c.size.ensures)
