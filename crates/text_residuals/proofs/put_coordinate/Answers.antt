-- `text_residuals::put_coordinate` meets its contract.
use Rattle.lent.specs.laws.Writing.{after, same}
use Rattle.text_number.specs.rules.Number.{integer_text}
use Rattle.text_residuals.specs.rules.Figures.{whole_then}
use Rattle.text_residuals.specs.rules.Sheet.{labelled, coordinate_text}
use Rattle.text_residuals.proofs.Cases.{as_read}
use Rattle.text_residuals.proofs.put_coordinate.Goals as goal

pub returns : goal.returns
unfolding coordinate_text labelled whole_then integer_text
returns c =
    let s = c.args.sheet in
    same
    (rw (
      c.size-2.ensures,
      c.negative-2.ensures,
      c.size.ensures,
      c.negative.ensures,
      as_read s.count c.struct_told-1.given.0.1,
      as_read s.aside c.struct_told-2-1.given.1.1.1.1.1.0.1,
    ))
    (after c.put_labelled-a.ensures (after c.put_any_taken-b.ensures c.put_labelled.ensures))
