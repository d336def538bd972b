use Rattle.text_answers.specs.rules.Answers.{lent_line}
use Rattle.lent.specs.notions.Walk.{Walked}
use Rattle.text_answers.proofs.put_stars.Given as goal

abbrev pub invariant-loop-i : goal.invariant-loop-i
invariant-loop-i l = Walked l.initial.out l.at l.n (lent_line l.style l.bytes l.status l.asc l.dec) l.out l.offset l.i
