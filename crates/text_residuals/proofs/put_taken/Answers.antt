-- `text_residuals::put_taken` meets its contract.
use Rattle.lent.specs.laws.Writing.{after, same}
use Rattle.text_number.specs.rules.Number.{integer_text}
use Rattle.text_residuals.specs.rules.Figures.{whole_then}
use Rattle.text_residuals.specs.rules.Sheet.{mean_text, root_text, labelled, taken_text}
use Rattle.text_residuals.proofs.Cases.{as_read}
use Rattle.text_residuals.proofs.put_taken.Goals as goal

pub returns : goal.returns
unfolding taken_text mean_text root_text labelled whole_then integer_text
returns c =
    let s = c.args.sheet in
    same
    (rw (
      c.size.ensures,
      c.negative.ensures,
      c.root_size-root.ensures,
      c.mean_minus-minus.ensures,
      c.mean_size-mean.ensures,
      as_read s.largest c.struct_told-1.given.1.1.1.0.1,
      as_read s.sum c.struct_told-4-1.given.1.0.1,
      as_read s.count c.struct_told-3-1.given.0.1,
      as_read s.squares c.struct_told-5-1.given.1.1.0.1,
    ))
    (after c.put_labelled-a.ensures (after c.put_labelled-b.ensures (after c.put_labelled-c.ensures c.put_where.ensures)))
