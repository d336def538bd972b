-- `text_fields::first_field` meets its contract.
use native.Mathlib.Omega.{arith}
use Rattle.text_fields.specs.laws.Fields.{field_start_first, field_end_short, field_part}
use Rattle.text_fields.proofs.first_field.Goals as goal

pub slice_bounds-result-count : goal.slice_bounds-result-count
slice_bounds-result-count c =
    let text = c.args.text.now in
    omega (arith, c.length_before-start.ensures, c.field_end.ensures, field_start_first text)

pub slice_bounds-result-start : goal.slice_bounds-result-start
slice_bounds-result-start c =
    let text = c.args.text.now in
    omega (arith, c.length_before-start.ensures, c.field_end.ensures, field_start_first text)

pub slice_bounds-result-end : goal.slice_bounds-result-end
slice_bounds-result-end c = omega (arith, c.field_end.ensures, field_end_short c.args.text.now)

pub returns : goal.returns
returns c =
    let text = c.args.text.now in
    rw (c.field_end.ensures, c.length_before-start.ensures) (field_part text)
