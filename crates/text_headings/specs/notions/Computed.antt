-- What a theorem opens that works rules out at stated inputs: the text of a night's headings, over the mean and the parts of a sight's text.
use Rattle.std.specs.Prelude.{ℕ}
use Rattle.heading_mean.specs.notions.Computed as mean
use Rattle.text_heading.specs.notions.Computed as text
use Rattle.text_headings.specs.rules.Sight.{seconds_text, sight_of, way_text, aside_text, residual_text, heading_text, row_at}
use Rattle.text_headings.specs.rules.Mean.{counts_text, scatter_text, spread_text, mean_text}

-- a name for the line below it, which is what counts
unfoldable pub computed : ℕ
unfolding mean.computed mean.spread text.computed seconds_text sight_of way_text aside_text residual_text heading_text row_at
    counts_text scatter_text spread_text mean_text
computed = 0
