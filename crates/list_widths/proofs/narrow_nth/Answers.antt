-- `list_widths::narrow_nth` meets its contract.
use mathlib.Core.Path.{sym, ◌∙◌}
use Prim.Native.Nat.{◌<◌}
use native.Mathlib.Omega.{arith}
use Rattle.list_widths.specs.rules.Narrow.{narrow_count}
use Rattle.list_widths.specs.laws.Narrow.{narrow_nth_is, narrow_nth_past, narrow_inside}
use Rattle.list_widths.proofs.narrow_nth.Goals as goal

pub overflow_mul-i : goal.overflow_mul-i
overflow_mul-i c =
    let index : c.args.i < narrow_count c.args.bytes.now = omega (arith, c.narrow_count.ensures, c.if-i-narrow_count.true) in
    omega (arith, narrow_inside _ _ index, c.well_formed.0)

pub narrow_at-requires : goal.narrow_at-requires
narrow_at-requires c =
    let index : c.args.i < narrow_count c.args.bytes.now = omega (arith, c.narrow_count.ensures, c.if-i-narrow_count.true) in
    narrow_inside _ _ index

pub returns-then-i-narrow_count : goal.returns-then-i-narrow_count
returns-then-i-narrow_count c =
    let index : c.args.i < narrow_count c.args.bytes.now = omega (arith, c.narrow_count.ensures, c.if-i-narrow_count.true) in
    c.narrow_at.ensures ∙ sym (narrow_nth_is _ _ index)

pub returns : goal.returns
returns c = c.nought.ensures ∙ sym (narrow_nth_past _ _ (omega (arith, c.narrow_count.ensures, c.if-i-narrow_count.false)))
