use mathlib.Core.Path.{◌≡◌}
use lib.ListN.{length, drop}
use Rattle.nutation_args.specs.rules.Sum.{summed}
use Rattle.nutation_table.specs.rules.Rows.{rows_of}
use Rattle.nutation_table.proofs.sum_over.Given as goal

abbrev pub invariant-loop-i : goal.invariant-loop-i
invariant-loop-i l = (summed (rows_of (drop l.i l.table)) l.a l.s ≡ summed (rows_of l.table) l.a l.initial.s) × (length l.table ≡ 63)
