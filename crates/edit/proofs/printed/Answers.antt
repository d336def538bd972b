-- `edit::printed` meets its contract: the first empty place stands in the list.
use native.Mathlib.Omega.{arith}
use Rattle.list_edit.specs.laws.Room.{empty_inside}
use Rattle.edit.proofs.printed.Goals as goal

pub overflow_mul-result : goal.overflow_mul-result
overflow_mul-result c = record { fits = omega (arith, c.index_of.ensures, empty_inside c.args.bytes.now, c.well_formed.0) }
