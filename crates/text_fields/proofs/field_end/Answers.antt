-- `text_fields::field_end` meets its contract.
use borrow.Author.Rules.{rules}
use native.Mathlib.Omega.{arith}
use mathlib.Core.Path.{◌≡◌}
use Prim.Native.Nat.{◌+◌}
use lib.ListN.{length}
use Rattle.text_fields.specs.declared.Stop.TheVariants.{Field}
use Rattle.text_fields.specs.rules.Fields.{before, field_of, field_end}
use Rattle.text_fields.specs.laws.Fields.{before_short, rest, drop_before, field_end_short}
use Rattle.text_fields.proofs.field_end.Goals as goal

pub slice_bounds-length_before-count : goal.slice_bounds-length_before-count
slice_bounds-length_before-count c = omega (arith, c.length_before-start.ensures, before_short Field c.args.text.now)

pub slice_bounds-length_before-start : goal.slice_bounds-length_before-start
slice_bounds-length_before-start c = omega (arith, c.length_before-start.ensures, before_short Field c.args.text.now)

-- the blanks in front, and the field
sum_is : (c : goal.After-length_before) → c.length_before-start.result + c.length_before.result ≡ field_end c.args.text.now
unfolding field_end field_of
sum_is c =
    let text = c.args.text.now in
    let short = before_short Field text in
    let second = rw (c.length_before-start.ensures, rest text (length (before Field text)) short, drop_before Field text) at c.length_before.ensures in
    omega (arith, c.length_before-start.ensures, second)

pub overflow_add-result : goal.overflow_add-result
overflow_add-result c =
    let text = c.args.text.now in
    let e = sum_is c in
    let short = field_end_short text in
    search rules

pub returns : goal.returns
returns c = sum_is c
