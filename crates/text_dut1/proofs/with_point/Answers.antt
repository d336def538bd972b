-- `text_dut1::with_point` meets its contract.
use Rattle.text_dut1.specs.rules.Scan.{with_point}
use Rattle.text_dut1.proofs.with_point.Goals as goal

pub returns-then-scan : goal.returns-then-scan
unfolding with_point
returns-then-scan c = simp c.if-scan.true c.unclear.ensures

pub returns : goal.returns
unfolding with_point
returns c = simp c.if-scan.false
