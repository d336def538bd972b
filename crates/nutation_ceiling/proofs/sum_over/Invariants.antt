use mathlib.Core.Path.{◌≡◌}
use lib.ListN.{length, drop}
use Rattle.nutation_ceiling.specs.rules.Ceiling.{largest_sum}
use Rattle.nutation_table.specs.rules.Rows.{rows_of}
use Rattle.nutation_ceiling.proofs.sum_over.Given as goal

abbrev pub invariant-loop-i : goal.invariant-loop-i
invariant-loop-i l = (largest_sum (rows_of (drop l.i l.table)) l.u l.s ≡ largest_sum (rows_of l.table) l.u l.initial.s) × (length l.table ≡ 63)
