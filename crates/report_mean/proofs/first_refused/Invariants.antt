use mathlib.Core.Path.{◌≡◌}
use Prim.Native.Nat.{◌+◌, ◌≤◌}
use lib.ListN.{length, drop}
use Rattle.report_mean.specs.rules.Refused.{first_refused}
use Rattle.report_mean.proofs.first_refused.Given as goal

abbrev pub invariant-loop-i : goal.invariant-loop-i
invariant-loop-i l = (l.i ≤ length l.status) × (l.i + first_refused (drop l.i l.status) ≡ first_refused l.status)
