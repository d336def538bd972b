-- `elementary_arc::arctangent_in` meets its contract.
use Rattle.elementary_arc.specs.rules.Arctangent.{arctangent_in}
use Rattle.elementary_arc.proofs.arctangent_in.Goals as goal

pub returns-then-both_zero : goal.returns-then-both_zero
unfolding arctangent_in
returns-then-both_zero c = rw (← c.both_zero.ensures, c.if-both_zero.true)

pub returns : goal.returns
unfolding arctangent_in
returns c = rw (← c.both_zero.ensures, c.if-both_zero.false, ← c.arctangent_of.ensures)
