-- `aberr::aberr_at` meets its contract.
use mathlib.Core.Path.{refl}
use Rattle.aberr.specs.rules.Star.{aberr_at}
use Rattle.aberr.proofs.aberr_at.Goals as goal

pub returns : goal.returns
unfolding aberr_at
returns c = refl
