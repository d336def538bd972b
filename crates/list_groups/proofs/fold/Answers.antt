-- `list_groups::fold` meets its contract.
use mathlib.Core.Path.{sym, ap, ◌∙◌}
use Prim.Native.Nat.{ℕ, ◌+◌, ◌*◌, ◌<◌}
use native.Mathlib.Omega.{arith}
use mir.Syntax.{w32}
use mir.Val.{to_z, of_z}
use mir.Facts.{to_z-of_z}
use Rattle.signed.specs.rules.Signed.{reach}
use Rattle.list_groups.specs.rules.Fold.{folded}
use Rattle.list_groups.proofs.Halves.{below, not_below}
use Rattle.list_groups.proofs.fold.Goals as goal

pub overflow_mul-result : goal.overflow_mul-result
overflow_mul-result c =
    let small : c.reach.result < 2147483648 = omega (arith, c.reach.ensures ∙ ap reach (to_z-of_z c.ranges.z), c.ranges.z.sfits) in
    record { fits = omega (arith, small) }

pub overflow_add-result : goal.overflow_add-result
overflow_add-result c =
    let small : c.reach.result < 2147483648 = omega (arith, c.reach.ensures ∙ ap reach (to_z-of_z c.ranges.z), c.ranges.z.sfits) in
    record { fits = omega (arith, small) }

pub overflow_mul-result-else-negative : goal.overflow_mul-result-else-negative
overflow_mul-result-else-negative c =
    let small-2 : c.reach-else-negative.result < 2147483648 = omega (arith, c.reach-else-negative.ensures ∙ ap reach (to_z-of_z c.ranges.z), c.ranges.z.sfits) in
    record { fits = omega (arith, small-2) }

pub returns-then-negative : goal.returns-then-negative
returns-then-negative c =
    ap (λ (n : ℕ). 2 * n + 1) c.reach.ensures
    ∙ below (to_z w32 (of_z w32 c.args.z)) (sym c.negative.ensures ∙ c.if-negative.true)
    ∙ ap folded (to_z-of_z c.ranges.z)

pub returns-else-negative : goal.returns-else-negative
returns-else-negative c =
    ap (λ (n : ℕ). 2 * n) c.reach-else-negative.ensures
    ∙ not_below (to_z w32 (of_z w32 c.args.z)) (sym c.negative.ensures ∙ c.if-negative.false)
    ∙ ap folded (to_z-of_z c.ranges.z)
