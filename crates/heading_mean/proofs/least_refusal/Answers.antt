-- `heading_mean::least_refusal` meets its contract.
use mathlib.Core.Path.{ap, ◌∙◌}
use Prim.Native.Nat.{ℕ, ◌+◌}
use lib.ListN.{drop}
use Rattle.quantity.specs.rules.Refusal.{lower}
use Rattle.quantity.specs.rules.Answer.{checked}
use Rattle.residual_sheet.specs.rules.Residuals.{least_refusal}
use Rattle.residual_sheet.specs.laws.Residuals.{least_next, least_done}
use Rattle.heading_mean.specs.rules.Mean.{bits_refusal}
use Rattle.heading_mean.proofs.least_refusal.Goals as goal

pub loop-b-preserved : goal.loop-b-preserved
loop-b-preserved c =
    let s = c.args.headings.now in
    ap (λ (n : ℕ). lower n (least_refusal bits_refusal (drop (c.loop-b.b-index + 1) s)))
    (rw (c.circle_refusal-one.ensures, c.of_pattern.ensures) at c.lower-refusal.ensures)
    ∙ least_next bits_refusal s c.loop-b.b-index (checked c.loop-b.refusal) c.loop-b-test.true
    ∙ c.loop-b.invariant

pub returns : goal.returns
returns c =
    least_done bits_refusal c.args.headings.now c.loop-b.b-index (checked c.loop-b.refusal) c.loop-b-test.false
    ∙ c.loop-b.invariant
