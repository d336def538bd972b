-- `quantity::taken_from` meets its contract.
use Rattle.std.proofs.Common.{rules}
use Rattle.quantity.specs.rules.Answer.{taken_from}
use Rattle.quantity.proofs.taken_from.Goals as goal

pub returns-in_err-x : goal.returns-in_err-x
unfolding taken_from
returns-in_err-x g c = search rules

pub returns : goal.returns
unfolding taken_from
returns g c = search rules
