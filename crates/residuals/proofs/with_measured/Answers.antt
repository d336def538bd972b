-- `residuals::with_measured` meets its contract: what is read are bytes of the text's slice.
use mathlib.Core.Path.{sym}
use Prim.Native.Nat.{ℕ}
use lib.ListN.{length-replicate}
use lib.Seq.{length-take-le}
use Rattle.residuals.proofs.with_measured.Goals as goal

pub slice_bounds-read_third-end : goal.slice_bounds-read_third-end
slice_bounds-read_third-end g c = sym (length-replicate {A = ℕ} 600001 0)

pub slice_bounds-text-end : goal.slice_bounds-text-end
slice_bounds-text-end g c = c.read_third-n.ensures

pub slice_bounds-print_night-end : goal.slice_bounds-print_night-end
slice_bounds-print_night-end g c = sym (length-take-le _ _ c.read_third-n.ensures)
