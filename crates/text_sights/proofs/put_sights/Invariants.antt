use Rattle.lent.specs.notions.Walk.{Walked}
use Rattle.text_sights.specs.rules.Sights.{sight_at}
use Rattle.text_sights.proofs.put_sights.Given as goal

abbrev pub invariant-loop-i : goal.invariant-loop-i
invariant-loop-i l = Walked l.initial.out 0 l.n (sight_at l.line l.star l.status l.asc l.dec l.measured_asc l.measured_dec) l.out l.offset l.i
