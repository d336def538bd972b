-- `list::count` meets its contract.
use mathlib.Core.Path.{refl}
use Rattle.list.specs.rules.Stars.{count_of}
use Rattle.list.proofs.count.Goals as goal

pub returns : goal.returns
unfolding count_of
returns c = refl
