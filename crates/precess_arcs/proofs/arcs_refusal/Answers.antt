-- `precess_arcs::arcs_refusal` meets its contract.
use Rattle.precess_arcs.specs.rules.Arcs.{arcs_check}
use Rattle.precess_arcs.proofs.arcs_refusal.Goals as goal

pub returns-then-both_zero : goal.returns-then-both_zero
unfolding arcs_check
returns-then-both_zero c = rw (← c.both_zero.ensures, c.if-both_zero.true)

pub returns-then-size : goal.returns-then-size
unfolding arcs_check
returns-then-size c =
    rw (← c.both_zero.ensures, c.if-both_zero.false, ← c.size-size.ensures, c.if-size.true)

pub returns-then-size-2 : goal.returns-then-size-2
unfolding arcs_check
returns-then-size-2 c =
    rw (← c.both_zero.ensures, c.if-both_zero.false, ← c.size-size.ensures, c.if-size.false, c.if-size-2.true)

pub returns-else-size-2 : goal.returns-else-size-2
unfolding arcs_check
returns-else-size-2 c =
    rw (← c.both_zero.ensures, c.if-both_zero.false, ← c.size-size.ensures, c.if-size.false, c.if-size-2.false)
