-- `residual_sheet::refusal_after` meets its contract.
use Rattle.double.specs.laws.Tests.{holds}
use Rattle.residual_sheet.specs.laws.Residuals.{near_changes_nothing}
use Rattle.residual_sheet.proofs.refusal_after.Goals as goal

pub returns-then-size : goal.returns-then-size
returns-then-size c =
    near_changes_nothing _ _ (holds (rw (c.size.ensures, c.of_pattern-x.ensures) at c.if-size.true))
