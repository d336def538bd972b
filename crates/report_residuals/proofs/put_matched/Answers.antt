-- `report_residuals::put_matched` meets its contract.
use Rattle.report_residuals.specs.rules.Report.{matched_report}
use Rattle.report_residuals.specs.laws.Matched.{status_long, asc_long, dec_long, matched_sheets}
use Rattle.report_residuals.specs.laws.Report.{reported_as}
use Rattle.report_residuals.proofs.put_matched.Goals as goal

pub slice_bounds-put_sheets-end : goal.slice_bounds-put_sheets-end
slice_bounds-put_sheets-end c = status_long c.match_sights.ensures

pub slice_bounds-put_sheets-end-2 : goal.slice_bounds-put_sheets-end-2
slice_bounds-put_sheets-end-2 c = asc_long c.match_sights.ensures

pub slice_bounds-put_sheets-end-3 : goal.slice_bounds-put_sheets-end-3
slice_bounds-put_sheets-end-3 c = dec_long c.match_sights.ensures

pub returns : goal.returns
unfolding matched_report
returns c = reported_as (matched_sheets c.match_sights.ensures _ _ _ _) c.put_sheets.ensures
