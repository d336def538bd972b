-- `elementary_arc::arctangent` meets its contract.
use Rattle.std.proofs.Common.{rules}
use Rattle.elementary_arc.specs.rules.Arctangent.{arctangent_rule}
use Rattle.elementary_arc.proofs.arctangent.Goals as goal

pub returns-in_err-arctangent_refusal : goal.returns-in_err-arctangent_refusal
unfolding arctangent_rule
returns-in_err-arctangent_refusal c = search rules

pub returns : goal.returns
unfolding arctangent_rule
returns c = search rules
