-- `residual_sheet::residuals_refusal` meets its contract.
use Rattle.std.proofs.Common.{rules}
use Rattle.residual_sheet.specs.rules.Residuals.{residuals_refusal}
use Rattle.residual_sheet.proofs.residuals_refusal.Goals as goal

pub returns-in_err-lengths_refusal : goal.returns-in_err-lengths_refusal
unfolding residuals_refusal
returns-in_err-lengths_refusal c = search rules

pub returns : goal.returns
unfolding residuals_refusal
returns c = search rules
