-- `report_residuals::put_sighted` meets its contract.
use mathlib.Core.Path.{refl, sym, ◌∙◌}
use Rattle.std.specs.Prelude.{Err}
use native.Mathlib.Omega.{arith}
use Rattle.list.specs.rules.Stars.{most_stars}
use Rattle.text_fields.specs.laws.Stored.{few_sights, lines_long, stars_long, firsts_long, seconds_long}
use Rattle.text_measured.specs.rules.Sight.{sight_rule}
use Rattle.text_measured.specs.rules.Sights.{entry_of}
use Rattle.report_residuals.specs.rules.Text.{unclear_line, too_many}
use Rattle.report_residuals.specs.laws.Report.{as_said, reported_as, read_sighted, sighted_by}
use Rattle.report_residuals.specs.declared.Untold.TheVariants as untold
use Rattle.report_residuals.proofs.put_sighted.Goals as goal

pub slice_bounds-line-end : goal.slice_bounds-line-end
slice_bounds-line-end c =
    let e = sym c.in-Ok.is ∙ c.read_sights.ensures.answer in
    (lines_long sight_rule entry_of most_stars _ _ e c.read_sights.ensures).0

pub slice_bounds-put_matched-end : goal.slice_bounds-put_matched-end
slice_bounds-put_matched-end c =
    let e = sym c.in-Ok.is ∙ c.read_sights.ensures.answer in
    (lines_long sight_rule entry_of most_stars _ _ e c.read_sights.ensures).1

pub slice_bounds-star-end : goal.slice_bounds-star-end
slice_bounds-star-end c =
    let e = sym c.in-Ok.is ∙ c.read_sights.ensures.answer in
    (stars_long sight_rule entry_of most_stars _ _ e c.read_sights.ensures).0

pub slice_bounds-put_matched-end-in-Ok : goal.slice_bounds-put_matched-end-in-Ok
slice_bounds-put_matched-end-in-Ok c =
    let e = sym c.in-Ok.is ∙ c.read_sights.ensures.answer in
    (stars_long sight_rule entry_of most_stars _ _ e c.read_sights.ensures).1

pub slice_bounds-measured_asc-end : goal.slice_bounds-measured_asc-end
slice_bounds-measured_asc-end c =
    let e = sym c.in-Ok.is ∙ c.read_sights.ensures.answer in
    (firsts_long sight_rule entry_of most_stars _ _ e c.read_sights.ensures).0

pub slice_bounds-put_matched-end-in-Ok-2 : goal.slice_bounds-put_matched-end-in-Ok-2
slice_bounds-put_matched-end-in-Ok-2 c =
    let e = sym c.in-Ok.is ∙ c.read_sights.ensures.answer in
    (firsts_long sight_rule entry_of most_stars _ _ e c.read_sights.ensures).1

pub slice_bounds-measured_dec-end : goal.slice_bounds-measured_dec-end
slice_bounds-measured_dec-end c =
    let e = sym c.in-Ok.is ∙ c.read_sights.ensures.answer in
    (seconds_long sight_rule entry_of most_stars _ _ e c.read_sights.ensures).0

pub slice_bounds-put_matched-end-in-Ok-3 : goal.slice_bounds-put_matched-end-in-Ok-3
slice_bounds-put_matched-end-in-Ok-3 c =
    let e = sym c.in-Ok.is ∙ c.read_sights.ensures.answer in
    (seconds_long sight_rule entry_of most_stars _ _ e c.read_sights.ensures).1

pub put_matched-requires : goal.put_matched-requires
put_matched-requires c =
    let e = sym c.in-Ok.is ∙ c.read_sights.ensures.answer in
    omega (arith, (stars_long sight_rule entry_of most_stars _ _ e c.read_sights.ensures).1, few_sights sight_rule entry_of most_stars _ _ e)

pub returns-in-Ok : goal.returns-in-Ok
returns-in-Ok c =
    let e = sym c.in-Ok.is ∙ c.read_sights.ensures.answer in
    reported_as (read_sighted _ _ e c.read_sights.ensures _ _ _ _ _) c.put_matched.ensures

pub returns-in-Err-Unclear : goal.returns-in-Err-Unclear
returns-in-Err-Unclear c =
    rw c.in-Err-Unclear.field-0-is
    (as_said (unclear_line _) (Err (untold.Unclear _)) (sighted_by _ _ _ _ _ _ _ (sym (rw c.in-Err-Unclear.field-0-is at c.in-Err-Unclear.is) ∙ c.read_sights.ensures.answer)) refl)

pub returns-in-Err-Full : goal.returns-in-Err-Full
returns-in-Err-Full c = as_said too_many (Err untold.TooMany) (sighted_by _ _ _ _ _ _ _ (sym (rw c.in-Err-Full.field-0-is at c.in-Err-Full.is) ∙ c.read_sights.ensures.answer)) refl
