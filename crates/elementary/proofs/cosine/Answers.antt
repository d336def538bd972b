-- `elementary::cosine` meets its contract.
use Rattle.std.proofs.Common.{rules}
use Rattle.elementary.specs.rules.Sine.{cosine_rule}
use Rattle.elementary.proofs.cosine.Goals as goal

pub returns-in_err-alone_refusal : goal.returns-in_err-alone_refusal
unfolding cosine_rule
returns-in_err-alone_refusal c = search rules

pub returns : goal.returns
unfolding cosine_rule
returns c = search rules
