use mathlib.Core.Path.{◌≡◌}
use lib.ListN.{drop}
use Prim.Native.Nat.{◌+◌}
use Rattle.list.specs.rules.Stars.{stars}
use Rattle.list.specs.rules.Reader.{empty_before}
use Rattle.list.proofs.kept_from.Given as goal

abbrev pub invariant-loop-i : goal.invariant-loop-i
invariant-loop-i l = l.i + empty_before (drop l.i (stars l.bytes)) ≡ l.from + empty_before (drop l.from (stars l.bytes))
