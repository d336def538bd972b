-- `quantity::plus` meets its contract.
use Rattle.std.proofs.Common.{rules}
use Rattle.quantity.specs.rules.Answer.{plus}
use Rattle.quantity.proofs.plus.Goals as goal

pub returns-in_err-x : goal.returns-in_err-x
unfolding plus
returns-in_err-x g c = search rules

pub returns : goal.returns
unfolding plus
returns g c = search rules
