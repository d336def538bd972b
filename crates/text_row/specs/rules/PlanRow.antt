-- The row of a star in a plan: its number, then its rise, culmination and set, in columns, and the culmination after it where that is on the
-- same day; or why there are none. A text is a list of bytes.
use Rattle.std.specs.Prelude.{ℕ, cond, List, [], ◌∷◌, ◌++◌, ltb, Float}
use Rattle.quantity.specs.rules.Answer.{Answer, answered, refused, Triple, triple}
use Rattle.text_number.specs.rules.Bytes.{ascii, line_end}
use Rattle.text_time.specs.rules.Time.{time_text}
use Rattle.text_time.specs.rules.Line.{again_text, why_text}
use Rattle.text_refusal.specs.rules.Refusal.{refusal_text}
use Rattle.text_row.specs.rules.Row.{column_text}

-- the third column is as wide as its heading, culmination
unfoldable pub times_row : Float → Float → Float → Float → List ℕ
times_row rise culmination set again =
    time_text rise ++ (ascii "  " ++ (time_text culmination ++ (ascii "     " ++ (time_text set ++ (again_text again ++ (line_end ∷ []))))))

-- a refusal in words; 15 and 16 as the line says them
unfoldable pub why_row : ℕ → List ℕ
why_row n = cond (ltb n 15) (refusal_text n) (why_text n)

abbrev pub outcome_row : Answer Triple → Float → List ℕ
outcome_row (answered (triple rise culmination set)) again = times_row rise culmination set again
outcome_row (refused n) again = why_row n

unfoldable pub plan_row : ℕ → Answer Triple → Float → List ℕ
plan_row number a again = column_text number ++ (ascii "  " ++ outcome_row a again)
