-- `nutation_ceiling::sum_over` meets its contract. The invariant: the sums over the rows that are left, from the sums so far, are those over
-- all rows.
use mathlib.Core.Path.{◌≡◌, ◌∙◌}
use mathlib.Core.List.{List}
use Prim.Native.Nat.{ℕ, ◌+◌, ◌<◌}
use native.Mathlib.Omega.{arith}
use native.Mathlib.Numerals.{add-one}
use lib.IntN.{ℤ}
use lib.ListN.{length, get_or, drop}
use lib.Ieee.{Float}
use lib.Seq.{drop-cons, drop-length}
use Rattle.nutation_args.specs.declared.Sums.{Sums}
use Rattle.nutation_ceiling.specs.rules.Ceiling.{largest_sum, with_largest}
use Rattle.nutation_table.specs.rules.Rows.{row_of, rows_of}
use Rattle.nutation_ceiling.proofs.sum_over.Goals as goal

-- one row more
next : (xs : List (List ℤ)) (i : ℕ) (d : List ℤ) (u : Float) (s : Sums) → i < length xs
    → largest_sum (rows_of (drop (i + 1) xs)) u (with_largest (row_of (get_or xs i d)) u s) ≡ largest_sum (rows_of (drop i xs)) u s
unfolding largest_sum
next xs i d u s h = rw (drop-cons xs i d, add-one)

pub loop-i-preserved : goal.loop-i-preserved
loop-i-preserved c =
    let inv = c.loop-i.invariant in
    let table = c.args.table in
    let inside : c.loop-i.i < length table = omega (arith, inv.1) in
    (rw (c.with_largest-s.ensures, c.row_of.ensures) (next _ _ _ _ _ inside ∙ inv.0), inv.1)

pub returns : goal.returns
unfolding largest_sum
returns c =
    let loop = c.loop-i in
    let table = c.args.table in
    let e : loop.i ≡ length table = omega (arith, loop.invariant.1) in
    rw (e, drop-length) at loop.invariant.0
