use mathlib.Core.Path.{◌≡◌}
use lib.ListN.{drop}
use Rattle.quantity.specs.rules.Answer.{checked}
use Rattle.quantity.specs.rules.Refusal.{lower}
use Rattle.residual_sheet.specs.rules.Residuals.{floats_refusal}
use Rattle.residual_sheet.proofs.floats_refusal.Given as goal

abbrev pub invariant-loop-b : goal.invariant-loop-b
invariant-loop-b l = lower (checked l.refusal) (floats_refusal (drop l.b-index l.s)) ≡ floats_refusal l.s
