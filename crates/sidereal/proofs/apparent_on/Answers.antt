-- `sidereal::apparent_on` meets its contract.
use Rattle.sidereal.specs.rules.Apparent.{apparent_from, apparent_of}
use Rattle.sidereal.proofs.apparent_on.Goals as goal

pub returns : goal.returns
unfolding apparent_of apparent_from
returns c =
    rw (c.mean_on-mean.ensures, c.mean_obliquity_on-mean_oblq.ensures, c.nutation_on-n.ensures) at c.apparent_in.ensures
