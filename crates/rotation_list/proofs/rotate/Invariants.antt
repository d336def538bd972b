use mathlib.Core.Path.{◌≡◌}
use Prim.Native.Nat.{◌+◌, ◌-◌, ◌≤◌}
use Rattle.list.specs.rules.Stars.{count_of, nth}
use Rattle.star_store.specs.notions.StarStored.{Upto}
use Rattle.rotation_list.specs.rules.Rotate.{rotated_star}
use Rattle.rotation_list.specs.notions.Aimed.{Aimed}
use Rattle.rotation_list.proofs.rotate.Given as goal

abbrev pub invariant-loop-i : goal.invariant-loop-i
invariant-loop-i l =
    (l.i ≤ l.n) × ((l.n ≡ count_of l.bytes) × (Upto (rotated_star l.m l.years) l.bytes l.initial.status l.initial.asc l.initial.dec l.i (record { counts = l.counts }) l.status l.asc l.dec
    × Aimed l.years (nth l.bytes l.i) (nth l.bytes (l.i + 1)) l.t))

abbrev pub decreases-loop-i : goal.decreases-loop-i
decreases-loop-i l = l.n - l.i
