use mathlib.Core.Path.{◌≡◌}
use lib.Dec.{T}
use lib.ListN.{length, take, drop}
use Rattle.aberr_table.specs.rules.Table.{named, walked}
use Rattle.aberr_table.proofs.sum_over.Given as goal

abbrev pub invariant-loop-i : goal.invariant-loop-i
invariant-loop-i l =
    (walked l.table (drop l.i (take 36 l.table)) l.g l.v ≡ walked l.table (take 36 l.table) l.g l.initial.v) × (length l.table ≡ 39) × T (named 39 l.table)
