use Prim.Native.Nat.{◌-◌}
use Rattle.list_groups.proofs.Steps.{Midway}
use Rattle.list_groups.proofs.number_at.Given as goal

abbrev pub invariant-loop : goal.invariant-loop
invariant-loop l = Midway l.bytes l.at (4 - l.counter) l.least l.low l.weight l.p
