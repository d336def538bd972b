-- What a theorem opens that works rules out at stated inputs: the mean of headings, over the residual sheet.
use Rattle.std.specs.Prelude.{ℕ}
use Rattle.helpers.specs.rules.Circle.{below_turn, on_circle, circle_refusal}
use Rattle.residual_sheet.specs.notions.Computed as sheet
use Rattle.root.specs.notions.Computed as root
use Rattle.heading_mean.specs.rules.Residual.{taken_back, across, residual_from}
use Rattle.heading_mean.specs.rules.Reference.{vote, agreeing, is_reference, first_reference}
use Rattle.heading_mean.specs.rules.Mean.{number_refusal, headings_refusal, entry_from, mean_of, mean_from, mean_in, mean_heading_rule}
use Rattle.heading_mean.specs.rules.Spread.{is_night, root_over, spread_of, mean_error}

-- names for the lines below them, which are what counts: of the mean, and of the spread
unfoldable pub computed : ℕ
unfolding sheet.computed taken_back across residual_from vote agreeing is_reference first_reference circle_refusal number_refusal headings_refusal entry_from
    below_turn on_circle mean_of mean_from mean_in mean_heading_rule
computed = 0

unfoldable pub spread : ℕ
unfolding root.computed is_night root_over spread_of mean_error
spread = 0
