-- `text_sights::put_sights` meets its contract.
use native.Mathlib.Omega.{arith}
use Rattle.lent.specs.laws.Walk.{begun, passed}
use Rattle.text_sights.proofs.put_sights.Goals as goal

pub loop-i-init : goal.loop-i-init
loop-i-init c = begun (omega arith)

pub loop-i-preserved : goal.loop-i-preserved
loop-i-preserved c =
    passed c.loop-i.invariant c.loop-i-test.true c.put_sight_at-offset.ensures
