use Rattle.std.proofs.Common.{◌^◌, ◌<◌}
use Rattle.root.specs.notions.Steps.{away}
use Rattle.root.proofs.digit.Given as goal

abbrev pub invariant-loop-t : goal.invariant-loop-t
invariant-loop-t l = l.t < 2 ^ 30

abbrev pub decreases-loop-t : goal.decreases-loop-t
decreases-loop-t l = away l.left l.twice (2 ^ l.k) l.t
