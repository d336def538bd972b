-- `text_dut1::signed_in` meets its contract.
use Rattle.std.proofs.Common.{rules}
use Rattle.text_dut1.specs.rules.Dut1.{signed_in}
use Rattle.text_dut1.proofs.signed_in.Goals as goal

pub returns-then-n-gt-MOST : goal.returns-then-n-gt-MOST
unfolding signed_in
returns-then-n-gt-MOST c = search rules

pub returns-then-minus : goal.returns-then-minus
unfolding signed_in
returns-then-minus c = search rules

pub returns : goal.returns
unfolding signed_in
returns c = search rules
