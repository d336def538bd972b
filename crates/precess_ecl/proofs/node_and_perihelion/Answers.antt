-- `precess_ecl::node_and_perihelion` meets its contract.
use Rattle.precess_ecl.specs.rules.Orbit.{node_and_perihelion}
use Rattle.precess_ecl.proofs.node_and_perihelion.Goals as goal

pub returns : goal.returns
unfolding node_and_perihelion
returns c = rw (c.added_to.ensures, c.arcsine_in.ensures, c.sine.ensures) at c.both.ensures
