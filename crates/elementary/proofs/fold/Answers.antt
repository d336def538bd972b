-- `elementary::fold` meets its contract.
use mathlib.Core.Path.{sym, subst}
use lib.Dec.{T}
use Rattle.double.specs.laws.Tests.{fails}
use Rattle.elementary.specs.rules.Fold.{fold}
use Rattle.elementary.specs.laws.Small.{fold_small}
use Rattle.elementary.proofs.fold.Goals as goal

pub returns-then-s : goal.returns-then-s
unfolding fold
returns-then-s c =
    rw (c.from_whole-k.ensures, c.whole_part-n.ensures, c.bears_minus-minus.ensures, c.size-a.ensures)

pub returns : goal.returns
returns c =
    let size = c.size-a.ensures in
    rw (c.bears_minus-minus.ensures, size)
    (fold_small _ (subst T (sym c.well_formed.0.1.1.0.1) tt) (fails (rw (size) at c.if-s.false)))
