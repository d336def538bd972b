-- `text_whole::signed_in` meets its contract.
use Rattle.std.proofs.Common.{rules}
use Rattle.text_whole.specs.rules.Signed.{signed_in}
use Rattle.text_whole.proofs.signed_in.Goals as goal

pub returns-then-minus : goal.returns-then-minus
unfolding signed_in
returns-then-minus c = search rules

pub returns : goal.returns
unfolding signed_in
returns c = search rules
