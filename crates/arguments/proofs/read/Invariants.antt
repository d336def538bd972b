-- What is read stands within the slice, and each round reads more.
use Rattle.std.proofs.Common.{length, ◌-◌, ◌≤◌}
use Rattle.arguments.proofs.read.Given as goal

abbrev pub invariant-loop-done : goal.invariant-loop-done
invariant-loop-done g l = l.done ≤ length l.input

abbrev pub decreases-loop-done : goal.decreases-loop-done
decreases-loop-done g l = length l.input - l.done
