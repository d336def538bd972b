-- `rotation::vector_of` meets its contract.
use mathlib.Core.Path.{refl}
use Rattle.rotation.specs.rules.Place.{vector_of}
use Rattle.rotation.proofs.vector_of.Goals as goal

pub returns : goal.returns
unfolding vector_of
returns c = refl
