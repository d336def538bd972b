-- `chain::place_under` meets its contract.
use Rattle.std.proofs.Common.{rules}
use Rattle.quantity.specs.rules.Answer.{then}
use Rattle.chain.specs.rules.Night.{place_under_by}
use Rattle.chain.proofs.place_under.Goals as goal

pub returns-in-Ok : goal.returns-in-Ok
unfolding place_under_by then
returns-in-Ok g c = search rules

pub returns-in-Err : goal.returns-in-Err
unfolding place_under_by then
returns-in-Err g c = search rules
