-- `nutation_table::sum_over` meets its contract. The invariant: the sums over the rows that are left, from the sums so far, are those over
-- all rows.
use mathlib.Core.Path.{◌≡◌, ◌∙◌}
use mathlib.Core.List.{List}
use Prim.Native.Nat.{ℕ, ◌+◌, ◌<◌}
use native.Mathlib.Omega.{arith}
use native.Mathlib.Numerals.{add-one}
use lib.IntN.{ℤ}
use lib.ListN.{length, get_or, drop}
use lib.Seq.{drop-cons, drop-length}
use Rattle.nutation_args.specs.declared.Moon.{Moon}
use Rattle.nutation_args.specs.declared.Sums.{Sums}
use Rattle.nutation_args.specs.rules.Sum.{summed, with_row}
use Rattle.nutation_table.specs.rules.Rows.{row_of, rows_of}
use Rattle.nutation_table.proofs.sum_over.Goals as goal

-- one row more
next : (xs : List (List ℤ)) (i : ℕ) (d : List ℤ) (a : Moon) (s : Sums) → i < length xs
    → summed (rows_of (drop (i + 1) xs)) a (with_row (row_of (get_or xs i d)) a s) ≡ summed (rows_of (drop i xs)) a s
unfolding summed
next xs i d a s h = rw (drop-cons xs i d, add-one)

pub loop-i-preserved : goal.loop-i-preserved
loop-i-preserved c =
    let inv = c.loop-i.invariant in
    let table = c.args.table in
    let inside : c.loop-i.i < length table = omega (arith, inv.1) in
    (rw (c.with_row-s.ensures, c.row_of.ensures) (next _ _ _ _ _ inside ∙ inv.0), inv.1)

pub returns : goal.returns
unfolding summed
returns c =
    let loop = c.loop-i in
    let table = c.args.table in
    let e : loop.i ≡ length table = omega (arith, loop.invariant.1) in
    rw (e, drop-length) at loop.invariant.0
