-- `elementary::sine` meets its contract.
use Rattle.std.proofs.Common.{rules}
use Rattle.elementary.specs.rules.Sine.{sine_rule}
use Rattle.elementary.proofs.sine.Goals as goal

pub returns-in_err-alone_refusal : goal.returns-in_err-alone_refusal
unfolding sine_rule
returns-in_err-alone_refusal c = search rules

pub returns : goal.returns
unfolding sine_rule
returns c = search rules
