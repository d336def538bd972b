-- `sidereal::mean_on` meets its contract.
use Rattle.sidereal.specs.rules.Mean.{mean_of}
use Rattle.sidereal.proofs.mean_on.Goals as goal

pub returns : goal.returns
unfolding mean_of
returns c =
    rw (c.within_360.ensures, c.mean_in_degrees.ensures, c.century.ensures) at c.radians.ensures
