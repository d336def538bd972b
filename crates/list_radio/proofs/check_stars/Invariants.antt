use Rattle.list_radio.proofs.Checking.{Checking}
use Rattle.list_radio.proofs.check_stars.Given as goal

abbrev pub invariant-loop : goal.invariant-loop
invariant-loop l = Checking l.bytes l.moving l.n l.first l.p l.counter
