use mathlib.Core.Path.{◌≡◌}
use Prim.Native.Nat.{◌-◌, ◌≤◌}
use Rattle.list.specs.rules.Stars.{count_of}
use Rattle.star_store.specs.notions.StarStored.{Upto}
use Rattle.batch.specs.notions.Under.{under}
use Rattle.batch.proofs.batch.Given as goal

abbrev pub invariant-loop-i : goal.invariant-loop-i
invariant-loop-i l =
    (l.i ≤ l.n) × ((l.n ≡ count_of l.bytes) × Upto (under l.night l.years) l.bytes l.initial.status l.initial.asc l.initial.dec l.i l.tally l.status l.asc l.dec)

abbrev pub decreases-loop-i : goal.decreases-loop-i
decreases-loop-i l = l.n - l.i
