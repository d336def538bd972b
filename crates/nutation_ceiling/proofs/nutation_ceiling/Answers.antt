-- `nutation_ceiling::nutation_ceiling` meets its contract.
use Rattle.std.proofs.Common.{rules}
use Rattle.nutation_ceiling.specs.rules.Ceiling.{nutation_ceiling_rule}
use Rattle.nutation_ceiling.proofs.nutation_ceiling.Goals as goal

pub returns-in_err-day_refusal : goal.returns-in_err-day_refusal
unfolding nutation_ceiling_rule
returns-in_err-day_refusal c = search rules

pub returns : goal.returns
unfolding nutation_ceiling_rule
returns c = search rules
