use Rattle.lent.specs.notions.Walk.{Walked}
use Rattle.text_sights.specs.rules.Sights.{left_at}
use Rattle.text_sights.proofs.put_lefts.Given as goal

abbrev pub invariant-loop-i : goal.invariant-loop-i
invariant-loop-i l = Walked l.initial.out l.at l.n (left_at l.line l.star l.status) l.out l.offset l.i
