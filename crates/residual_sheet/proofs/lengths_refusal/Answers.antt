-- `residual_sheet::lengths_refusal` meets its contract.
use Rattle.std.proofs.Common.{rules}
use Rattle.residual_sheet.specs.rules.Residuals.{lengths_refusal}
use Rattle.residual_sheet.proofs.lengths_refusal.Goals as goal

pub returns-then-n-le-MOST_STARS : goal.returns-then-n-le-MOST_STARS
unfolding lengths_refusal
returns-then-n-le-MOST_STARS c = search rules

pub returns-else-a-n : goal.returns-else-a-n
unfolding lengths_refusal
returns-else-a-n c = search rules
