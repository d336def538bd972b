-- `plan::print_list` meets its contract: what is printed are bytes of the text's slice.
use mathlib.Core.Path.{sym}
use lib.Seq.{length-take-le}
use Rattle.plan.proofs.print_list.Goals as goal

pub slice_bounds-out-end : goal.slice_bounds-out-end
slice_bounds-out-end g c = c.put_either-k.ensures

pub slice_bounds-write-end : goal.slice_bounds-write-end
slice_bounds-write-end g c = sym (length-take-le _ _ c.put_either-k.ensures)
