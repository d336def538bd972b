use mathlib.Core.Path.{◌≡◌}
use lib.ListN.{drop}
use Rattle.quantity.specs.rules.Answer.{checked}
use Rattle.quantity.specs.rules.Refusal.{lower}
use Rattle.residual_sheet.specs.rules.Residuals.{least_refusal}
use Rattle.heading_mean.specs.rules.Mean.{bits_refusal}
use Rattle.heading_mean.proofs.least_refusal.Given as goal

abbrev pub invariant-loop-b : goal.invariant-loop-b
invariant-loop-b l = lower (checked l.refusal) (least_refusal bits_refusal (drop l.b-index l.headings)) ≡ least_refusal bits_refusal l.headings
