use Rattle.lent.specs.notions.Walk.{Walked}
use Rattle.text_headings.specs.rules.Sight.{row_at}
use Rattle.text_headings.proofs.put_rows.Given as goal

abbrev pub invariant-loop-i : goal.invariant-loop-i
invariant-loop-i l = Walked l.initial.out l.at l.n (row_at l.line l.star l.heading l.k) l.out l.offset l.i
