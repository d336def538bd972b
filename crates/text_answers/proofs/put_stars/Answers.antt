-- `text_answers::put_stars` meets its contract: after i passes the first i stars are written.
use native.Mathlib.Omega.{arith}
use Rattle.lent.specs.laws.Walk.{begun, passed, ended}
use Rattle.text_answers.proofs.put_stars.Goals as goal

pub loop-i-init : goal.loop-i-init
loop-i-init c = begun c.within-offset.ensures

pub loop-i-preserved : goal.loop-i-preserved
loop-i-preserved c = passed c.loop-i.invariant (omega arith) c.put_nth-offset.ensures

pub returns : goal.returns
returns c = ended c.loop-i.invariant (omega arith)
