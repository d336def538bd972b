-- `list_radio::star_at` meets its contract.
use Rattle.std.proofs.Common.{rules}
use Rattle.list_radio.specs.rules.Reader.{star_at_rule}
use Rattle.list_radio.proofs.star_at.Goals as goal

pub returns-in_err-mark_refusal : goal.returns-in_err-mark_refusal
unfolding star_at_rule
returns-in_err-mark_refusal c = search rules

pub returns : goal.returns
unfolding star_at_rule
returns c = search rules
