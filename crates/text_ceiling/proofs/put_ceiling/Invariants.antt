use Rattle.lent.specs.notions.Walk.{Walked}
use Rattle.text_ceiling.specs.rules.Text.{line_at}
use Rattle.text_ceiling.proofs.put_ceiling.Given as goal

abbrev pub invariant-loop-i : goal.invariant-loop-i
invariant-loop-i l = Walked l.initial.out 0 41 line_at l.out l.offset l.i
