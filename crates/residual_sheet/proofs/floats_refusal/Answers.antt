-- `residual_sheet::floats_refusal` meets its contract: before each pass the refusal of all is the lower of that so far and that of the rest.
use mathlib.Core.Path.{ap, ◌∙◌}
use Prim.Native.Nat.{ℕ, ◌+◌}
use lib.ListN.{drop}
use Rattle.quantity.specs.rules.Refusal.{lower}
use Rattle.quantity.specs.rules.Answer.{checked}
use Rattle.residual_sheet.specs.rules.Residuals.{float_refusal, floats_refusal}
use Rattle.residual_sheet.specs.laws.Residuals.{least_next, least_done}
use Rattle.residual_sheet.proofs.floats_refusal.Goals as goal

pub loop-b-preserved : goal.loop-b-preserved
loop-b-preserved c =
    let s = c.args.s.now in
    ap (λ (n : ℕ). lower n (floats_refusal (drop (c.loop-b.b-index + 1) s))) c.refusal_after-refusal.ensures
    ∙ least_next float_refusal s c.loop-b.b-index (checked c.loop-b.refusal) c.loop-b-test.true
    ∙ c.loop-b.invariant

pub returns : goal.returns
returns c =
    least_done float_refusal c.args.s.now c.loop-b.b-index (checked c.loop-b.refusal) c.loop-b-test.false
    ∙ c.loop-b.invariant
