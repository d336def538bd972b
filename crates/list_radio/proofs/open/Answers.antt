-- `list_radio::open` meets its contract.
use Rattle.std.proofs.Common.{rules}
use Rattle.list_radio.specs.rules.Reader.{open_rule}
use Rattle.list_radio.proofs.open.Goals as goal

pub returns-in_err-mark_refusal : goal.returns-in_err-mark_refusal
unfolding open_rule
returns-in_err-mark_refusal c = search rules

pub returns : goal.returns
unfolding open_rule
returns c = search rules
