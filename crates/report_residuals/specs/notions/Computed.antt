-- What a theorem opens that works rules out at stated inputs: a night whose stars are all refused.
use Rattle.std.specs.Prelude.{ℕ}
use Rattle.quantity.specs.notions.Computed as quantity
use Rattle.list.specs.notions.Computed as list
use Rattle.text_number.specs.notions.Computed as text
use Rattle.text_measured.specs.notions.Computed as measured
use Rattle.quantity.specs.rules.Answer.{then}
use Rattle.precess_angles.specs.rules.Days.{days_refusal}
use Rattle.star_store.specs.rules.Star.{star_refusal}
use Rattle.star_store.specs.rules.Stored.{store_refusal}
use Rattle.batch.specs.rules.Star.{star_rule}
use Rattle.text_fields.specs.rules.Stored.{stored_rule}
use Rattle.report_residuals.specs.rules.Came.{came_to}
use Rattle.residual_sheet.specs.rules.Residuals.{lengths_refusal, least_refusal, residuals_refusal, residuals_rule}
use Rattle.report_residuals.specs.rules.Text.{sheets_report}
use Rattle.report_residuals.specs.rules.Report.{night_report, report_of}

-- a name for the line below it, which is what counts
unfoldable pub computed : ℕ
unfolding quantity.computed list.computed text.computed measured.computed then days_refusal star_refusal star_rule store_refusal stored_rule
    lengths_refusal least_refusal residuals_refusal residuals_rule came_to sheets_report night_report report_of
computed = 0
