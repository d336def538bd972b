use mathlib.Core.Path.{◌≡◌}
use lib.ListN.{drop}
use Prim.Native.Nat.{◌+◌}
use Rattle.list.specs.rules.Stars.{stars}
use Rattle.list.specs.rules.Find.{index_of}
use Rattle.list.proofs.index_of.Given as goal

abbrev pub invariant-loop-i : goal.invariant-loop-i
invariant-loop-i l = l.i + index_of l.number (drop l.i (stars l.bytes)) ≡ index_of l.number (stars l.bytes)
