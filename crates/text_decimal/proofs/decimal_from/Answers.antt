-- `text_decimal::decimal_from` meets its contract.
use Rattle.text_decimal.specs.rules.Decimal.{decimal_from}
use Rattle.text_decimal.proofs.decimal_from.Goals as goal

pub returns-then-scan-2 : goal.returns-then-scan-2
unfolding decimal_from
returns-then-scan-2 c = simp (c.if-scan.true, c.if-scan-2.true, c.nearest_u64_to_f64.ensures)

pub returns-else-scan-2 : goal.returns-else-scan-2
unfolding decimal_from
returns-else-scan-2 c = simp (c.if-scan.true, c.if-scan-2.false)

pub returns-else-scan : goal.returns-else-scan
unfolding decimal_from
returns-else-scan c = simp c.if-scan.false
