-- `elementary::near_fold` meets its contract: such an angle has few quarters.
use native.Mathlib.Omega.{arith}
use Rattle.elementary.specs.rules.Fold.{fold}
use Rattle.elementary.specs.laws.Fold.{fold_near, fold_at_most}
use Rattle.elementary.proofs.near_fold.Goals as goal

pub near_whole_part-n-requires : goal.near_whole_part-n-requires
near_whole_part-n-requires c =
    rw c.size-a.ensures (fold_near c.args.x.0 c.requires)

pub from_short_whole-k-requires : goal.from_short_whole-k-requires
from_short_whole-k-requires c =
    let few = fold_at_most c.args.x.0 c.requires in
    rw (c.near_whole_part-n.ensures, c.size-a.ensures) (omega (arith, few))

pub returns : goal.returns
unfolding fold
returns c =
    rw (c.from_short_whole-k.ensures, c.near_whole_part-n.ensures, c.bears_minus-sign.ensures, c.size-a.ensures)
