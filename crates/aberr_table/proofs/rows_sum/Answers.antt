-- `aberr_table::rows_sum` meets its contract.
use mathlib.Core.Path.{sym, subst, ◌∙◌}
use mathlib.Core.List.{List}
use lib.Dec.{T}
use Rattle.aberr_args.specs.declared.Row.{Row}
use Rattle.aberr_table.specs.rules.Velocity.{none}
use Rattle.aberr_table.specs.rules.Table.{named}
use Rattle.aberr_table.specs.laws.Walk.{table_is_rows, table_names_its_rows}
use Rattle.aberr_table.proofs.rows_sum.Goals as goal

pub sum_over-requires : goal.sum_over-requires
sum_over-requires c = subst (λ (xs : List Row). T (named 39 xs)) (sym c.table.ensures) table_names_its_rows

pub returns : goal.returns
returns c =
    rw c.table.ensures at c.sum_over.ensures ∙ table_is_rows c.args.g none
