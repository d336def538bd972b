-- `text_whole::unsigned_from` meets its contract.
use Rattle.text_whole.specs.rules.Unsigned.{unsigned_from}
use Rattle.text_whole.proofs.unsigned_from.Goals as goal

pub returns-then-scan-2 : goal.returns-then-scan-2
unfolding unsigned_from
returns-then-scan-2 c = simp (c.if-scan.true, c.if-scan-2.true)

pub returns-else-scan-2 : goal.returns-else-scan-2
unfolding unsigned_from
returns-else-scan-2 c = simp (c.if-scan.true, c.if-scan-2.false)

pub returns-else-scan : goal.returns-else-scan
unfolding unsigned_from
returns-else-scan c = simp c.if-scan.false
