-- `residuals::print_night` meets its contract: what is printed are bytes of the text's slice.
use mathlib.Core.Path.{sym}
use Prim.Native.Nat.{ℕ}
use lib.ListN.{length-replicate}
use lib.Seq.{length-take-le}
use Rattle.report_residuals.specs.laws.Report.{text_inside}
use Rattle.residuals.proofs.print_night.Goals as goal

pub slice_bounds-put_report-end : goal.slice_bounds-put_report-end
slice_bounds-put_report-end g c = sym (length-replicate {A = ℕ} 531644 0)

pub slice_bounds-out-end : goal.slice_bounds-out-end
slice_bounds-out-end g c = text_inside (rw c.in-Ok.is at c.put_report.ensures)

pub slice_bounds-write-end : goal.slice_bounds-write-end
slice_bounds-write-end g c = sym (length-take-le _ _ (text_inside (rw c.in-Ok.is at c.put_report.ensures)))
