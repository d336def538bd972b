-- `sidereal::apparent_sidereal` meets its contract.
use Rattle.std.proofs.Common.{rules}
use Rattle.sidereal.specs.rules.Apparent.{apparent_sidereal_rule}
use Rattle.sidereal.proofs.apparent_sidereal.Goals as goal

pub returns-in_err-day_refusal : goal.returns-in_err-day_refusal
unfolding apparent_sidereal_rule
returns-in_err-day_refusal c = search rules

pub returns : goal.returns
unfolding apparent_sidereal_rule
returns c = search rules
