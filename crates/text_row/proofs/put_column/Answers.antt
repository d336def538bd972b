-- `text_row::put_column` meets its contract.
use mathlib.Core.Path.{◌≡◌, sym, ap}
use mathlib.Core.List.{◌++◌}
use Prim.Native.Nat.{ℕ, ◌-◌, ◌≤◌}
use native.Mathlib.Omega.{arith}
use lib.ListN.{length, take}
use lib.Seq.{length-take-le}
use Rattle.lent.specs.laws.Writing.{after, same}
use Rattle.text_number.specs.rules.Bytes.{ascii}
use Rattle.text_number.specs.rules.Number.{decimal_text}
use Rattle.text_number.specs.laws.Number.{any_decimal_short}
use Rattle.text_row.specs.rules.Row.{column_text}
use Rattle.text_row.proofs.put_column.Goals as goal

pub slice_bounds-put-end : goal.slice_bounds-put-end
slice_bounds-put-end c =
    let short : c.left_of_ten-k.result ≤ 10 = omega (arith, c.left_of_ten-k.ensures) in
    sym (length-take-le _ _ short)

pub returns : goal.returns
unfolding column_text
returns c =
    let n = c.args.n in
    let left : c.left_of_ten-k.result ≡ 10 - length (decimal_text n) =
    omega (arith, c.left_of_ten-k.ensures, c.put_decimal.ensures.offset, any_decimal_short n) in
    same (ap (λ (k : ℕ). take k (ascii "          ") ++ decimal_text n) left) (after c.put-a.ensures c.put_decimal-2.ensures)
