-- `list_radio::mark_refusal` meets its contract.
use mathlib.Core.Bool.{true, false}
use native.Mathlib.Omega.{arith}
use Rattle.list_radio.proofs.Reading.{mark_empty, mark_there, mark_other}
use Rattle.list_radio.proofs.mark_refusal.Goals as goal

pub returns-then-bytes-eq0 : goal.returns-then-bytes-eq0
returns-then-bytes-eq0 c = mark_empty _ c.if-bytes-eq0.true

pub returns-then-bytes-eq-MARK : goal.returns-then-bytes-eq-MARK
returns-then-bytes-eq-MARK c = mark_there _ true (omega arith) c.if-bytes-eq-MARK.true

pub returns-then-bytes-eq-STILL_MARK : goal.returns-then-bytes-eq-STILL_MARK
returns-then-bytes-eq-STILL_MARK c = mark_there _ false (omega arith) c.if-bytes-eq-STILL_MARK.true

pub returns-else-bytes-eq-STILL_MARK : goal.returns-else-bytes-eq-STILL_MARK
returns-else-bytes-eq-STILL_MARK c = mark_other _ (omega arith) c.if-bytes-eq-MARK.false c.if-bytes-eq-STILL_MARK.false
