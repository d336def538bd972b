-- `heading_mean::is_night` meets its contract.
use Rattle.std.proofs.Common.{rules}
use Rattle.heading_mean.specs.rules.Spread.{is_night}
use Rattle.heading_mean.proofs.is_night.Goals as goal

pub returns-then-sum-le3000000000 : goal.returns-then-sum-le3000000000
unfolding is_night
returns-then-sum-le3000000000 c = search rules

pub returns-else-sum-le3000000000 : goal.returns-else-sum-le3000000000
unfolding is_night
returns-else-sum-le3000000000 c = search rules
