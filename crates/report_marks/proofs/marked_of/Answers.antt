-- `report_marks::marked_of` meets its contract.
use mathlib.Core.Path.{sym, ap, ◌∙◌}
use Rattle.quantity.specs.rules.Answer.{Answer, Triple}
use Rattle.list.specs.rules.Find.{Entry, shown_found}
use Rattle.report_marks.specs.rules.Marked.{marked_by, marked_found, marked_of}
use Rattle.report_marks.proofs.marked_of.Goals as goal

pub returns-in-Ok : goal.returns-in-Ok
unfolding marked_of
returns-in-Ok c =
    let args = c.args in
    c.marked_by.ensures
    ∙ ap (λ (a : Answer Triple). marked_by a args.star args.mark) (rw c.sight_on-sight.ensures at c.bearings_of.ensures)
    ∙ ap (λ (f : Answer Entry). marked_found args.edition args.pad f args.day args.number args.star args.mark)
    (ap shown_found (sym c.in-Ok.is) ∙ c.find.ensures)

pub returns-in-Err : goal.returns-in-Err
unfolding marked_of
returns-in-Err c =
    let args = c.args in
    ap (λ (f : Answer Entry). marked_found args.edition args.pad f args.day args.number args.star args.mark)
    (ap shown_found (sym c.in-Err.is) ∙ c.find.ensures)
