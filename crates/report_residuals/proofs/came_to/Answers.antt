-- `report_residuals::came_to` meets its contract.
use mathlib.Core.Path.{sym, ap, ◌∙◌}
use Rattle.list.specs.rules.Find.{shown_found}
use Rattle.report_residuals.specs.rules.Came.{came_at, lent_came}
use Rattle.report_residuals.proofs.came_to.Goals as goal

pub returns-in-Ok : goal.returns-in-Ok
unfolding lent_came
returns-in-Ok c =
    let args = c.args in
    (λ j.
    record {
      status = c.status_at.ensures j;
      asc = c.number_at.ensures j;
      dec = c.number_at-in-Ok.ensures j;
    })
    ∙ ap (came_at args.status.now args.asc.now args.dec.now) (ap shown_found (sym c.in-Ok.is) ∙ c.find.ensures)

pub returns-in-Err : goal.returns-in-Err
unfolding lent_came
returns-in-Err c =
    let args = c.args in
    (λ j. record { status = c.number.ensures j; asc = 0; dec = 0 })
    ∙ ap (came_at args.status.now args.asc.now args.dec.now) (ap shown_found (sym c.in-Err.is) ∙ c.find.ensures)
