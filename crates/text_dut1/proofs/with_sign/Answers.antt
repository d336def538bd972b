-- `text_dut1::with_sign` meets its contract.
use Rattle.text_dut1.specs.rules.Dut1.{with_sign}
use Rattle.text_dut1.proofs.with_sign.Goals as goal

pub returns-then-scan-2 : goal.returns-then-scan-2
unfolding with_sign
returns-then-scan-2 c = simp (c.if-scan.true, c.if-scan-2.true) c.signed_in.ensures

pub returns-else-scan-2 : goal.returns-else-scan-2
unfolding with_sign
returns-else-scan-2 c = simp (c.if-scan.true, c.if-scan-2.false)

pub returns-else-scan : goal.returns-else-scan
unfolding with_sign
returns-else-scan c = simp c.if-scan.false
