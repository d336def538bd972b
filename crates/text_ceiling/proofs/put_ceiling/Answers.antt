-- `text_ceiling::put_ceiling` meets its contract: after i passes the first i lines are written.
use native.Mathlib.Omega.{arith}
use Rattle.lent.specs.laws.Walk.{begun, passed, ended}
use Rattle.text_ceiling.specs.rules.Text.{ceiling_text}
use Rattle.text_ceiling.proofs.put_ceiling.Goals as goal

pub loop-i-init : goal.loop-i-init
loop-i-init c = begun c.within-offset.ensures

pub loop-i-preserved : goal.loop-i-preserved
loop-i-preserved c = passed c.loop-i.invariant (omega arith) c.put_line-offset.ensures

pub returns : goal.returns
unfolding ceiling_text
returns c = ended c.loop-i.invariant (omega arith)
