-- `residual_sheet::coordinate_sheet` meets its contract.
use mathlib.Core.Path.{sym, ap, subst, ◌∙◌}
use Rattle.list.specs.rules.Stars.{most_stars}
use Rattle.residual_sheet.specs.rules.Running.{AtMost, sheet_from}
use Rattle.residual_sheet.specs.rules.Entry.{entries_of}
use Rattle.residual_sheet.specs.laws.Running.{all_at_most, grown_is_sheet}
use Rattle.residual_sheet.proofs.coordinate_sheet.Goals as goal

pub sheet_from-requires : goal.sheet_from-requires
sheet_from-requires c =
    let a = c.args in
    subst (AtMost most_stars) (sym c.running_of-r.ensures)
    (all_at_most a.across a.status.now a.computed.now a.measured.now c.requires.status_len_bound)

pub returns : goal.returns
returns c =
    let a = c.args in
    c.sheet_from.ensures ∙ ap sheet_from c.running_of-r.ensures ∙ grown_is_sheet (entries_of a.across a.status.now a.computed.now a.measured.now)
