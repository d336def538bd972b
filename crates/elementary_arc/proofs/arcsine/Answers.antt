-- `elementary_arc::arcsine` meets its contract.
use Rattle.std.proofs.Common.{rules}
use Rattle.elementary_arc.specs.rules.Arcsine.{arcsine_rule}
use Rattle.elementary_arc.proofs.arcsine.Goals as goal

pub returns-in_err-number_refusal : goal.returns-in_err-number_refusal
unfolding arcsine_rule
returns-in_err-number_refusal c = search rules

pub returns : goal.returns
unfolding arcsine_rule
returns c = search rules
