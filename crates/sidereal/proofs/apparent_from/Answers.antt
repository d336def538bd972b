-- `sidereal::apparent_from` meets its contract.
use Rattle.sidereal.specs.rules.Apparent.{apparent_from}
use Rattle.sidereal.proofs.apparent_from.Goals as goal

pub returns : goal.returns
unfolding apparent_from
returns c = c.apparent_in.ensures
