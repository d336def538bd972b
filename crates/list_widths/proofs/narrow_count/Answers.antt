-- `list_widths::narrow_count` meets its contract.
use mathlib.Core.Path.{refl}
use Rattle.list_widths.specs.rules.Narrow.{narrow_count}
use Rattle.list_widths.proofs.narrow_count.Goals as goal

pub returns : goal.returns
unfolding narrow_count
returns c = refl
