-- `text_fields::after_field` meets its contract.
use Rattle.std.proofs.Common.{arith}
use Rattle.text_fields.specs.laws.Fields.{field_end_short, behind_field}
use Rattle.text_fields.proofs.after_field.Goals as goal

pub slice_bounds-result-count : goal.slice_bounds-result-count
slice_bounds-result-count c = omega (arith, c.field_end.ensures, field_end_short c.args.text.now)

pub slice_bounds-result-start : goal.slice_bounds-result-start
slice_bounds-result-start c = omega (arith, c.field_end.ensures, field_end_short c.args.text.now)

pub returns : goal.returns
returns c = rw c.field_end.ensures (behind_field c.args.text.now)
