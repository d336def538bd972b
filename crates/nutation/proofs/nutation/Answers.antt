-- `nutation::nutation` meets its contract.
use Rattle.std.proofs.Common.{rules}
use Rattle.nutation.specs.rules.Day.{nutation_rule}
use Rattle.nutation.proofs.nutation.Goals as goal

pub returns-in_err-day_refusal : goal.returns-in_err-day_refusal
unfolding nutation_rule
returns-in_err-day_refusal c = search rules

pub returns : goal.returns
unfolding nutation_rule
returns c = search rules
