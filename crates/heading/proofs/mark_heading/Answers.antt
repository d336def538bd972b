-- `heading::mark_heading` meets its contract.
use Rattle.std.proofs.Common.{rules}
use Rattle.heading.specs.rules.Mark.{mark_heading_rule}
use Rattle.heading.proofs.mark_heading.Goals as goal

pub returns-in_err-mark_refusal : goal.returns-in_err-mark_refusal
unfolding mark_heading_rule
returns-in_err-mark_refusal c = search rules

pub returns : goal.returns
unfolding mark_heading_rule
returns c = search rules
