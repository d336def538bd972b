use Rattle.list_moves.proofs.Measuring.{Measuring}
use Rattle.list_moves.proofs.stars_size.Given as goal

abbrev pub invariant-loop-i : goal.invariant-loop-i
invariant-loop-i l = Measuring l.bytes l.size l.i
