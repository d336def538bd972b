use lib.ListN.{take}
use Rattle.lent.specs.rules.Writing.{Wrote}
use Rattle.lent.proofs.put.Given as goal

abbrev pub invariant-loop-b : goal.invariant-loop-b
invariant-loop-b l = Wrote l.initial.out l.at (take l.b-index l.src) l.out l.offset
