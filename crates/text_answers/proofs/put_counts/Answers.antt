-- `text_answers::put_counts` meets its contract: after k passes the first k counts are written.
use native.Mathlib.Omega.{arith}
use Rattle.lent.specs.laws.Walk.{begun, passed, ended}
use Rattle.text_answers.proofs.put_counts.Goals as goal

pub loop-k-init : goal.loop-k-init
loop-k-init c = begun c.within-offset.ensures

pub loop-k-preserved : goal.loop-k-preserved
loop-k-preserved c = passed c.loop-k.invariant (omega arith) c.put_count-offset.ensures

pub returns : goal.returns
returns c = ended c.loop-k.invariant (omega arith)
