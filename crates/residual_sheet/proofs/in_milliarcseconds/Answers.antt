-- `residual_sheet::in_milliarcseconds` meets its contract.
use Rattle.residual_sheet.specs.rules.Residual.{in_milliarcseconds}
use Rattle.residual_sheet.proofs.in_milliarcseconds.Goals as goal

pub returns : goal.returns
unfolding in_milliarcseconds
returns c =
    rw (c.milliarcseconds.ensures, c.to_degrees.ensures) at c.rounded.ensures
