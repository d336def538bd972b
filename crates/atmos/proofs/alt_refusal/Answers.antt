-- `atmos::alt_refusal` meets its contract.
use Rattle.std.proofs.Common.{rules}
use Rattle.atmos.specs.rules.Refraction.{alt_refusal}
use Rattle.atmos.proofs.alt_refusal.Goals as goal

pub returns-then-x-2 : goal.returns-then-x-2
unfolding alt_refusal
returns-then-x-2 c = search rules

pub returns-else-x-2 : goal.returns-else-x-2
unfolding alt_refusal
returns-else-x-2 c = search rules

pub returns-else-is_finite : goal.returns-else-is_finite
unfolding alt_refusal
returns-else-is_finite c = search rules
