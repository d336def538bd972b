-- `list::nth` meets its contract.
use mathlib.Core.Path.{sym, ◌∙◌}
use Prim.Native.Nat.{◌<◌}
use native.Mathlib.Omega.{arith}
use Rattle.list.specs.rules.Stars.{count_of}
use Rattle.list.specs.laws.Stars.{nth_is, nth_past, inside}
use Rattle.list.proofs.nth.Goals as goal

pub overflow_mul-i : goal.overflow_mul-i
overflow_mul-i c =
    let index : c.args.i < count_of c.args.bytes.now = omega (arith, c.count.ensures, c.if-i-count.true) in
    omega (arith, inside _ _ index, c.well_formed.0)

pub record_at-requires : goal.record_at-requires
record_at-requires c =
    let index : c.args.i < count_of c.args.bytes.now = omega (arith, c.count.ensures, c.if-i-count.true) in
    inside _ _ index

pub returns-then-i-count : goal.returns-then-i-count
returns-then-i-count c =
    let index : c.args.i < count_of c.args.bytes.now = omega (arith, c.count.ensures, c.if-i-count.true) in
    c.record_at.ensures ∙ sym (nth_is _ _ index)

pub returns : goal.returns
returns c = c.nought.ensures ∙ sym (nth_past _ _ (omega (arith, c.count.ensures, c.if-i-count.false)))
