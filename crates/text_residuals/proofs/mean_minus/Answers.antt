-- `text_residuals::mean_minus` meets its contract.
use mir.Facts.{to_z-of_z}
use mathlib.Core.Path.{sym, ap, ◌∙◌}
use Rattle.signed.specs.rules.Signed.{negative}
use Rattle.text_residuals.specs.rules.Sheet.{mean_minus}
use Rattle.text_residuals.proofs.mean_minus.Goals as goal

pub returns-then-negative : goal.returns-then-negative
unfolding mean_minus
returns-then-negative c = rw (ap negative (sym (to_z-of_z c.ranges.sum)) ∙ sym c.negative.ensures ∙ c.if-negative.true)

pub returns-else-negative : goal.returns-else-negative
unfolding mean_minus
returns-else-negative c = rw (ap negative (sym (to_z-of_z c.ranges.sum)) ∙ sym c.negative.ensures ∙ c.if-negative.false)
