-- `elementary::tangent` meets its contract.
use Rattle.std.proofs.Common.{rules}
use Rattle.elementary.specs.rules.Sine.{tangent_rule}
use Rattle.elementary.proofs.tangent.Goals as goal

pub returns-in_err-tangent_refusal : goal.returns-in_err-tangent_refusal
unfolding tangent_rule
returns-in_err-tangent_refusal c = search rules

pub returns : goal.returns
unfolding tangent_rule
returns c = search rules
