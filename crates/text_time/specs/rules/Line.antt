-- The line of a star: its number, then its rise, culmination and set, and the culmination after it where that is on the same day; or why
-- there are none. A text is a list of bytes.
use Rattle.std.specs.Prelude.{ℕ, cond, List, [], ◌∷◌, ◌++◌, eqb, Float}
use Rattle.std.specs.Float.Ieee.{lt}
use Rattle.double.specs.rules.Operations.{one}
use Rattle.quantity.specs.rules.Answer.{Answer, answered, refused, Triple, triple}
use Rattle.text_number.specs.rules.Bytes.{ascii, space, line_end}
use Rattle.text_number.specs.rules.Number.{decimal_text}
use Rattle.text_number.specs.rules.Refused.{refused_text}
use Rattle.text_time.specs.rules.Time.{time_text}

-- a time with a byte after it
unfoldable pub time_then : Float → ℕ → List ℕ
time_then x end = time_text x ++ (end ∷ [])

-- a time that is within the day
unfoldable pub again_text : Float → List ℕ
again_text again = cond (lt again one) (ascii " again " ++ time_text again) []

unfoldable pub times_text : Float → Float → Float → Float → List ℕ
times_text rise culmination set again =
    time_then rise space ++ (time_then culmination space ++ (time_text set ++ (again_text again ++ (line_end ∷ []))))

-- 15 and 16 in words
unfoldable pub why_text : ℕ → List ℕ
why_text n = cond (eqb n 15) (ascii "never rises\n") (cond (eqb n 16) (ascii "never sets\n") (refused_text n))

abbrev pub outcome_text : Answer Triple → Float → List ℕ
outcome_text (answered (triple rise culmination set)) again = times_text rise culmination set again
outcome_text (refused n) again = why_text n

unfoldable pub plan_line : ℕ → Answer Triple → Float → List ℕ
plan_line number a again = decimal_text number ++ (space ∷ outcome_text a again)
