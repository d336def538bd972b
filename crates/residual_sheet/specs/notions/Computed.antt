-- What a theorem opens that works rules out at stated inputs: a residual, over units and the helpers; the sheets of slices, over it.
use Rattle.std.specs.Prelude.{ℕ}
use Rattle.quantity.specs.notions.Computed as quantity
use Rattle.units.specs.notions.Computed as units
use Rattle.helpers.specs.rules.Angle.{limited}
use Rattle.residual_sheet.specs.rules.Residual.{taken_back, across_turn, rounded, in_milliarcseconds, residual_of}
use Rattle.residual_sheet.specs.rules.Entry.{entry_at}
use Rattle.residual_sheet.specs.rules.Sheet.{figures_of, sheet_of, moved_on, merged}
use Rattle.residual_sheet.specs.rules.Residuals.{lengths_refusal, least_refusal, residuals_refusal, residuals_rule}

-- names for the lines below them, which are what counts: of a residual, and of sheets
unfoldable pub residual : ℕ
unfolding units.computed limited taken_back across_turn rounded in_milliarcseconds residual_of
residual = 0

unfoldable pub computed : ℕ
unfolding quantity.computed residual entry_at figures_of sheet_of moved_on merged lengths_refusal least_refusal residuals_refusal residuals_rule
computed = 0
