-- What a theorem opens that works rules out at stated inputs: a sight's text, over refraction. A star's place stays shut.
use Rattle.std.specs.Prelude.{ℕ}
use Rattle.atmos.specs.notions.Computed as atmos
use Rattle.helpers.specs.rules.Circle.{below_turn, on_circle, circle_refusal}
use Rattle.heading.specs.rules.Mark.{mark_in, mark_refusal, mark_heading_rule}
use Rattle.text_heading.specs.notions.Computed as text
use Rattle.report_day.specs.rules.Day.{open_text}
use Rattle.report_heading.specs.rules.Sight.{star_text, sky_from, lines_text}

-- a name for the line below it, which is what counts
unfoldable pub computed : ℕ
unfolding atmos.computed text.computed below_turn on_circle circle_refusal mark_in mark_refusal mark_heading_rule open_text
    star_text sky_from lines_text
computed = 0
