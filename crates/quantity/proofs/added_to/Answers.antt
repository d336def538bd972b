-- `quantity::added_to` meets its contract.
use Rattle.std.proofs.Common.{rules}
use Rattle.quantity.specs.rules.Answer.{added_to}
use Rattle.quantity.proofs.added_to.Goals as goal

pub returns-in_err-x : goal.returns-in_err-x
unfolding added_to
returns-in_err-x g c = search rules

pub returns : goal.returns
unfolding added_to
returns g c = search rules
