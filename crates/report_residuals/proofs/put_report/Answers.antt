-- `report_residuals::put_report` meets its contract.
use mathlib.Core.Path.{refl, sym, ap}
use Rattle.quantity.specs.laws.Answer.{number_not_none}
use Rattle.star_store.specs.rules.Stored.{Tallied}
use Rattle.report_residuals.specs.rules.Text.{list_refused}
use Rattle.report_residuals.specs.laws.Report.{as_said, reported_as, report_is, list_refused_lem}
use Rattle.report_residuals.proofs.put_report.Goals as goal

pub returns-in-Ok : goal.returns-in-Ok
returns-in-Ok c =
    let done = c.batch.ensures in
    let is = ap (λ (q : Tallied). q.refusal) (rw c.in-Ok.is at done.answer) in
    reported_as (report_is _ done (sym is) _ _ refl refl refl) c.put_sighted.ensures

pub returns-in-Err : goal.returns-in-Err
returns-in-Err c =
    let is = ap (λ (q : Tallied). q.refusal) (rw c.in-Err.is at c.batch.ensures.answer) in
    as_said (list_refused _) _ (list_refused_lem _ _ _ _ _ _ _ is (number_not_none c.in-Err.refusal)) refl
