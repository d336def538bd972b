-- `text_residuals::size` meets its contract.
use mathlib.Core.Path.{sym, ap, ◌∙◌}
use Prim.Native.Nat.{ℕ, ◌+◌}
use native.Mathlib.Omega.{arith}
use lib.IntN.{nat_abs}
use mir.Syntax.{w64}
use mir.Val.{to_z, of_z}
use mir.Facts.{to_z-of_z}
use Rattle.signed.specs.rules.Signed.{reach}
use Rattle.text_residuals.proofs.Cases.{size_below, size_above}
use Rattle.text_residuals.proofs.size.Goals as goal

pub overflow_add-result : goal.overflow_add-result
overflow_add-result c =
    record { fits = omega (arith, c.reach.ensures ∙ ap reach (to_z-of_z c.ranges.z), c.ranges.z.sfits) }

pub returns-then-negative : goal.returns-then-negative
returns-then-negative c =
    ap (λ (n : ℕ). n + 1) c.reach.ensures ∙ size_below (to_z w64 (of_z w64 c.args.z)) (sym c.negative.ensures ∙ c.if-negative.true) ∙ ap nat_abs (to_z-of_z c.ranges.z)

pub returns-else-negative : goal.returns-else-negative
returns-else-negative c =
    c.reach-else-negative.ensures ∙ size_above (to_z w64 (of_z w64 c.args.z)) (sym c.negative.ensures ∙ c.if-negative.false) ∙ ap nat_abs (to_z-of_z c.ranges.z)
