-- `report_residuals::put_sheets` meets its contract.
use mathlib.Core.Path.{refl}
use Rattle.report_residuals.specs.rules.Text.{sheet_refused, sheets_report}
use Rattle.report_residuals.specs.laws.Report.{text_reported, as_said}
use Rattle.report_residuals.proofs.put_sheets.Goals as goal

pub returns-in-Ok : goal.returns-in-Ok
unfolding sheets_report
returns-in-Ok c = text_reported (rw (← c.residuals.ensures, c.in-Ok.is) refl) c.put_style.ensures

pub returns-in-Err : goal.returns-in-Err
unfolding sheets_report
returns-in-Err c = as_said (sheet_refused _) _ (rw (← c.residuals.ensures, c.in-Err.is) refl) refl
