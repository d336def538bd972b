use Rattle.list_moves.proofs.Laying.{Laying}
use Rattle.list_moves.proofs.lay_stars.Given as goal

abbrev pub invariant-loop : goal.invariant-loop
invariant-loop l = Laying l.initial.out l.bytes l.moving l.n l.first l.out l.p l.offset l.counter
