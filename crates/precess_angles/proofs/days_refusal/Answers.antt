-- `precess_angles::days_refusal` meets its contract.
use Rattle.std.proofs.Common.{rules}
use Rattle.precess_angles.specs.rules.Days.{days_refusal}
use Rattle.precess_angles.proofs.days_refusal.Goals as goal

pub returns : goal.returns
unfolding days_refusal
returns c = search rules
