-- `transit::rise_culm_set_refusal` meets its contract.
use Rattle.std.proofs.Common.{rules}
use Rattle.transit.specs.rules.RiseCulmSet.{rise_culm_set_refusal}
use Rattle.transit.proofs.rise_culm_set_refusal.Goals as goal

pub returns : goal.returns
unfolding rise_culm_set_refusal
returns c = search rules
