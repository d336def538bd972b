-- `aberrsheet::main` stays within the table.
use mathlib.Core.Path.{◌≡◌, refl}
use native.Mathlib.Omega.{arith}
use lib.ListN.{length}
use Rattle.aberr_table.specs.rules.Table.{table}
use Rattle.aberr_table.specs.laws.Walk.{table_names_its_rows, named_at}
use Rattle.aberrsheet.proofs.main.Goals as goal

pub bounds-table-n : goal.bounds-table-n
bounds-table-n c =
    let all : length table ≡ 39 = refl in
    rw c.table-table.ensures (named_at 39 table c.loop-i.i _ table_names_its_rows (omega (arith, all)))
