-- `aberr_table::sum_over` meets its contract. The invariant: the sums over the rows that are left, from the sums so far, are those over
-- all rows.
use mathlib.Core.Path.{◌≡◌, ◌∙◌}
use mathlib.Core.List.{List}
use Prim.Native.Nat.{ℕ, ◌+◌, ◌<◌}
use native.Mathlib.Omega.{arith}
use native.Mathlib.Numerals.{add-one}
use lib.ListN.{length, get_or, take, drop}
use lib.Seq.{drop-cons, drop-length, get_or-take, length-take-le}
use Rattle.aberr_args.specs.declared.Row.{Row}
use Rattle.aberr_args.specs.declared.Arguments.{Arguments}
use Rattle.aberr_args.specs.declared.Velocity.{Velocity}
use Rattle.aberr_args.specs.rules.Row.{with_row}
use Rattle.aberr_table.specs.rules.Table.{walked}
use Rattle.aberr_table.specs.laws.Walk.{named_at, named_fits}
use Rattle.aberr_table.proofs.sum_over.Goals as goal

-- one row more
next : (xs : List Row) (i : ℕ) (d : Row) (g : Arguments) (v : Velocity) → i < 36 → i < length (take 36 xs)
    → walked xs (drop (i + 1) (take 36 xs)) g (with_row (get_or xs i d) xs g v) ≡ walked xs (drop i (take 36 xs)) g v
unfolding walked
next xs i d g v h k = rw (drop-cons (take 36 xs) i d k, get_or-take 36 xs i d h, add-one)

pub offset_bounds-table-n : goal.offset_bounds-table-n
offset_bounds-table-n c =
    let loop = c.loop-i in
    named_fits c.args.table loop.i _ loop.invariant.2 (omega (arith, loop.invariant.1))

pub bounds-table-n : goal.bounds-table-n
bounds-table-n c =
    let loop = c.loop-i in
    named_at 39 c.args.table loop.i _ loop.invariant.2 (omega (arith, loop.invariant.1))

pub loop-i-preserved : goal.loop-i-preserved
unfolding with_row
loop-i-preserved c =
    let loop = c.loop-i in
    let inv = loop.invariant in
    let a = c.args in
    let inside : loop.i < length (take 36 a.table) = omega (arith, length-take-le 36 a.table (omega (arith, inv.1))) in
    (rw (c.with_terms-v.ensures, c.sin_cos_in-a.ensures) (next a.table loop.i _ _ _ (omega arith) inside ∙ inv.0), inv.1, inv.2)

pub returns : goal.returns
unfolding walked
returns c =
    let loop = c.loop-i in
    let table = c.args.table in
    let e : loop.i ≡ length (take 36 table) = omega (arith, length-take-le 36 table (omega (arith, loop.invariant.1))) in
    rw (e, drop-length) at loop.invariant.0
