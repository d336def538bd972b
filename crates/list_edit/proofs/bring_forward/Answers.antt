-- `list_edit::bring_forward` meets its contract: after i passes those that are kept of the first i records stand in front.
use native.Mathlib.Omega.{arith}
use Rattle.lent.specs.laws.Writing.{same, nothing}
use Rattle.list_edit.specs.laws.Passes.{one_kept, all_kept}
use Rattle.list_edit.proofs.bring_forward.Goals as goal

pub loop-i-init : goal.loop-i-init
loop-i-init c = nothing _ _ _ (omega arith)

pub loop-i-preserved : goal.loop-i-preserved
loop-i-preserved c = one_kept _ _ _ _ c.loop-i.invariant (omega arith) _ _ _ c.nth.ensures c.put_kept-at.ensures

pub returns : goal.returns
returns c = same (all_kept _ c.loop-i.i (omega arith)) c.loop-i.invariant
