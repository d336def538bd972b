-- `text_residuals::put_row` meets its contract.
use Rattle.lent.specs.laws.Writing.{after, same, length_kept}
use Rattle.text_residuals.specs.rules.Figures.{row_text}
use Rattle.text_residuals.proofs.Cases.{as_read}
use Rattle.text_residuals.proofs.put_row.Goals as goal

pub shape_of-out : goal.shape_of-out
shape_of-out c =
    length_kept
    (after c.put_whole_then-a.ensures (after c.put_whole_then-b.ensures (after c.put_whole_then-c.ensures (after c.put_whole_then-d.ensures (after c.put_whole_then-e.ensures c.put_whole_then.ensures)))))

pub returns : goal.returns
unfolding row_text
returns c =
    let s = c.args.sheet in
    same
    (rw (
      as_read s.count c.struct_told-1.given.0.1,
      as_read s.sum c.struct_told-2-1.given.1.0.1,
      as_read s.squares c.struct_told-3-1.given.1.1.0.1,
      as_read s.largest c.struct_told-4-1.given.1.1.1.0.1,
      as_read s.place c.struct_told-5-1.given.1.1.1.1.0.1,
      as_read s.aside c.struct_told-6-1.given.1.1.1.1.1.0.1,
    ))
    (after c.put_whole_then-a.ensures (after c.put_whole_then-b.ensures (after c.put_whole_then-c.ensures (after c.put_whole_then-d.ensures (after c.put_whole_then-e.ensures c.put_whole_then.ensures)))))
