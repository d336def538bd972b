-- `edit::gather` meets its contract: what is printed are bytes of the list's slice.
use mathlib.Core.Path.{sym, subst}
use Prim.Native.Nat.{ℕ, ◌≤◌}
use lib.ListN.{length}
use lib.Seq.{length-take-le}
use Rattle.list_edit.specs.laws.Room.{cut_inside}
use Rattle.edit.proofs.gather.Goals as goal

pub slice_bounds-write-end : goal.slice_bounds-write-end
slice_bounds-write-end g c =
    subst (λ (n : ℕ). n ≤ length c.gather.new.bytes) (sym c.printed-k.ensures) (cut_inside c.args.cut c.gather.new.bytes)

pub slice_bounds-write-end-in-Ok : goal.slice_bounds-write-end-in-Ok
slice_bounds-write-end-in-Ok g c = sym (length-take-le _ _ (slice_bounds-write-end g c))
