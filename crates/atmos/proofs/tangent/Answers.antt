-- `atmos::tangent` meets its contract.
use Rattle.atmos.specs.rules.Refraction.{tangent_of_degrees}
use Rattle.atmos.proofs.tangent.Goals as goal

pub returns : goal.returns
unfolding tangent_of_degrees
returns c = rw (c.fold.ensures, c.radians.ensures) at c.tangent.ensures
