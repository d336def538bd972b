-- `elementary_arc::arcsine_in` meets its contract.
use mathlib.Core.Path.{sym}
use Rattle.double.specs.laws.Tests.{holds, fails}
use Rattle.elementary_arc.specs.rules.Arcsine.{arcsine_in}
use Rattle.elementary_arc.specs.laws.Arcsine.{arcsine_by_base, arcsine_of_neither}
use Rattle.elementary_arc.proofs.arcsine_in.Goals as goal

pub returns-then-a : goal.returns-then-a
returns-then-a c =
    let size = c.size-a.ensures in
    rw (c.negated_if.ensures, c.bears_minus.ensures, c.base-b.ensures, c.arcsine_root.ensures, size)
    (sym (arcsine_by_base _ (holds (rw (size) at c.if-a.true))))

pub returns-then-a-2 : goal.returns-then-a-2
unfolding arcsine_in
returns-then-a-2 c = rw (← c.size-a.ensures, c.if-a-2.true)

pub returns : goal.returns
returns c =
    let size = c.size-a.ensures in
    sym (arcsine_of_neither _ (fails (rw (size) at c.if-a.false)) (fails (rw (size) at c.if-a-2.false)))
