-- `calendar::millis_of` meets its contract.
use Rattle.std.proofs.Common.{rules}
use Rattle.calendar.specs.rules.Julian.{millis_of}
use Rattle.calendar.proofs.millis_of.Goals as goal

pub returns-then-dut1-lt0 : goal.returns-then-dut1-lt0
unfolding millis_of
returns-then-dut1-lt0 c = search rules

pub returns : goal.returns
unfolding millis_of
returns c = search rules
