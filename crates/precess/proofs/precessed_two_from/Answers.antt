-- `precess::precessed_two_from` meets its contract.
use Rattle.std.proofs.Common.{rules}
use Rattle.precess.specs.rules.Two.{precessed_two_from}
use Rattle.precess.proofs.precessed_two_from.Goals as goal

pub returns : goal.returns
unfolding precessed_two_from
returns c = search rules
