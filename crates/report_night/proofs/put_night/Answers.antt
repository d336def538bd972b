-- `report_night::put_night` meets its contract.
use mir.Facts.{to_z-of_z}
use mathlib.Core.Path.{sym, ap, ◌∙◌}
use Rattle.list.specs.rules.Stars.{most_stars}
use Rattle.text_fields.specs.laws.Stored.{lines_long, stars_long, firsts_long, seconds_long}
use Rattle.text_night.specs.rules.Sights.{entry_of}
use Rattle.report_night.specs.rules.Report.{report_of}
use Rattle.report_night.specs.laws.Report.{text_reported, unclear_reported, report_by, read_night}
use Rattle.report_night.proofs.put_night.Goals as goal

pub slice_bounds-line-end : goal.slice_bounds-line-end
slice_bounds-line-end c =
    (lines_long _ entry_of most_stars _ _ (sym c.in-Ok.is ∙ c.read_night.ensures.answer) c.read_night.ensures).0

pub slice_bounds-put_lent-end : goal.slice_bounds-put_lent-end
slice_bounds-put_lent-end c =
    (lines_long _ entry_of most_stars _ _ (sym c.in-Ok.is ∙ c.read_night.ensures.answer) c.read_night.ensures).1

pub slice_bounds-star-end : goal.slice_bounds-star-end
slice_bounds-star-end c =
    (stars_long _ entry_of most_stars _ _ (sym c.in-Ok.is ∙ c.read_night.ensures.answer) c.read_night.ensures).0

pub slice_bounds-put_lent-end-in-Ok : goal.slice_bounds-put_lent-end-in-Ok
slice_bounds-put_lent-end-in-Ok c =
    (stars_long _ entry_of most_stars _ _ (sym c.in-Ok.is ∙ c.read_night.ensures.answer) c.read_night.ensures).1

pub slice_bounds-status-end : goal.slice_bounds-status-end
slice_bounds-status-end c =
    (firsts_long _ entry_of most_stars _ _ (sym c.in-Ok.is ∙ c.read_night.ensures.answer) c.read_night.ensures).0

pub slice_bounds-put_lent-end-in-Ok-2 : goal.slice_bounds-put_lent-end-in-Ok-2
slice_bounds-put_lent-end-in-Ok-2 c =
    (firsts_long _ entry_of most_stars _ _ (sym c.in-Ok.is ∙ c.read_night.ensures.answer) c.read_night.ensures).1

pub slice_bounds-bits-end : goal.slice_bounds-bits-end
slice_bounds-bits-end c =
    (seconds_long _ entry_of most_stars _ _ (sym c.in-Ok.is ∙ c.read_night.ensures.answer) c.read_night.ensures).0

pub slice_bounds-put_lent-end-in-Ok-3 : goal.slice_bounds-put_lent-end-in-Ok-3
slice_bounds-put_lent-end-in-Ok-3 c =
    (seconds_long _ entry_of most_stars _ _ (sym c.in-Ok.is ∙ c.read_night.ensures.answer) c.read_night.ensures).1

-- a number with a sign arrives by its bits
pub returns-in-Ok : goal.returns-in-Ok
returns-in-Ok c =
    let report = report_of c.args.edition c.args.pad c.args.bytes.now c.args.text.now in
    text_reported
    (ap report (sym (to_z-of_z c.ranges.dut1)) ∙ read_night _ _ _ _ _ _ (sym c.in-Ok.is ∙ c.read_night.ensures.answer) c.read_night.ensures)
    c.put_lent.ensures

pub returns-in-Err-Unclear : goal.returns-in-Err-Unclear
returns-in-Err-Unclear c =
    let report = report_of c.args.edition c.args.pad c.args.bytes.now c.args.text.now in
    rw c.in-Err-Unclear.field-0-is
    (unclear_reported
    (ap report (sym (to_z-of_z c.ranges.dut1)) ∙ report_by _ _ _ _ _ _ (sym (rw c.in-Err-Unclear.field-0-is at c.in-Err-Unclear.is) ∙ c.read_night.ensures.answer)))

pub returns-in-Err-Full : goal.returns-in-Err-Full
returns-in-Err-Full c =
    let report = report_of c.args.edition c.args.pad c.args.bytes.now c.args.text.now in
    text_reported
    (ap report (sym (to_z-of_z c.ranges.dut1)) ∙ report_by _ _ _ _ _ _ (sym (rw c.in-Err-Full.field-0-is at c.in-Err-Full.is) ∙ c.read_night.ensures.answer))
    c.put.ensures
