-- `transit::rise_culm_set_in` meets its contract.
use Rattle.std.proofs.Common.{rules}
use Rattle.quantity.specs.rules.Answer.{then}
use Rattle.transit.specs.rules.RiseCulmSet.{rise_culm_set_in}
use Rattle.transit.proofs.rise_culm_set_in.Goals as goal

pub returns-in_err-arc : goal.returns-in_err-arc
unfolding rise_culm_set_in then
returns-in_err-arc c = search rules

pub returns : goal.returns
unfolding rise_culm_set_in then
returns c = search rules
