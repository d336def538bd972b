-- `precess::annual_n` meets its contract.
use mathlib.Core.Path.{refl}
use Rattle.precess.specs.rules.Annual.{annual_n}
use Rattle.precess.proofs.annual_n.Goals as goal

pub returns : goal.returns
unfolding annual_n
returns c = refl
