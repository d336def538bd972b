-- `sidereal::mean_sidereal` meets its contract.
use Rattle.std.proofs.Common.{rules}
use Rattle.sidereal.specs.rules.Mean.{mean_sidereal_rule}
use Rattle.sidereal.proofs.mean_sidereal.Goals as goal

pub returns-in_err-day_refusal : goal.returns-in_err-day_refusal
unfolding mean_sidereal_rule
returns-in_err-day_refusal c = search rules

pub returns : goal.returns
unfolding mean_sidereal_rule
returns c = search rules
