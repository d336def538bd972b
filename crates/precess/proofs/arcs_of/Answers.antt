-- `precess::arcs_of` meets its contract.
use mathlib.Core.Path.{refl}
use Rattle.precess.specs.rules.Equatorial.{arcs_of}
use Rattle.precess.proofs.arcs_of.Goals as goal

pub returns : goal.returns
unfolding arcs_of
returns c = refl
