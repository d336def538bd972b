-- What a theorem opens that works rules out at stated inputs: a star's rows, over numbers as text, refusals in words and folded angles.
use Rattle.std.specs.Prelude.{ℕ}
use Rattle.helpers.specs.rules.Angle.{limited}
use Rattle.text_line.specs.notions.Computed as line
use Rattle.text_time.specs.notions.Computed as time
use Rattle.text_refusal.specs.notions.Computed as refusal
use Rattle.text_row.specs.rules.Place.{milliseconds_of, hours_text, arc_text, degrees_text}
use Rattle.text_row.specs.rules.Row.{column_text, place_text, row_of}
use Rattle.text_row.specs.rules.PlanRow.{times_row, why_row, plan_row}

-- a name for the line below it, which is what counts
unfoldable pub computed : ℕ
unfolding line.computed time.computed refusal.computed limited milliseconds_of hours_text arc_text degrees_text
    column_text place_text row_of times_row why_row plan_row
computed = 0
