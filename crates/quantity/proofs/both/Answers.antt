-- `quantity::both` meets its contract.
use Rattle.std.proofs.Common.{rules}
use Rattle.quantity.specs.rules.Answer.{both}
use Rattle.quantity.proofs.both.Goals as goal

pub returns-in_err-x : goal.returns-in_err-x
unfolding both
returns-in_err-x g c = search rules

pub returns : goal.returns
unfolding both
returns g c = search rules

pub returns-in_err-y : goal.returns-in_err-y
unfolding both
returns-in_err-y g c = search rules
