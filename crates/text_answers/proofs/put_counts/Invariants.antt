use Prim.Native.Nat.{◌+◌}
use Rattle.list_tally.specs.rules.Status.{highest_status}
use Rattle.text_answers.specs.rules.Answers.{count_at}
use Rattle.lent.specs.notions.Walk.{Walked}
use Rattle.text_answers.proofs.put_counts.Given as goal

abbrev pub invariant-loop-k : goal.invariant-loop-k
invariant-loop-k l = Walked l.initial.out l.at (highest_status + 1) (count_at l.counts) l.out l.offset l.k
