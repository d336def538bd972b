-- `precess::annual_m` meets its contract.
use mathlib.Core.Path.{refl}
use Rattle.precess.specs.rules.Annual.{annual_m}
use Rattle.precess.proofs.annual_m.Goals as goal

pub returns : goal.returns
unfolding annual_m
returns c = refl
