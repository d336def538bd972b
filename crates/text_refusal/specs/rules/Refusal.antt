-- The line of a refusal in words: of a reduced list or one of its stars, and of a plan's call.
use Rattle.std.specs.Prelude.{ℕ, cond, List, [], ◌∷◌, ◌++◌, eqb}
use Rattle.text_number.specs.rules.Bytes.{ascii, line_end}
use Rattle.text_number.specs.rules.Number.{decimal_text}
use Rattle.text_number.specs.rules.Refused.{refused_word}

-- what a call of the batch can be refused by
unfoldable pub call_words : ℕ → List ℕ
call_words n =
    cond (eqb n 1) (ascii ": a figure did not arrive: enter it again")
    (cond (eqb n 2) (ascii ": the day is outside the years 0 to 4000: check it")
    (cond (eqb n 8) (ascii ": this is no list of stars, or a damaged one") []))

-- what one of its stars can be refused by
unfoldable pub star_words : ℕ → List ℕ
star_words n =
    cond (eqb n 3) (ascii ": carried past the pole: check its rates")
    (cond (eqb n 4) (ascii ": too close to the pole: choose another star")
    (cond (eqb n 7) (ascii ": at the pole: choose another star")
    (cond (eqb n 9) (ascii ": the record is damaged")
    (cond (eqb n 10) (ascii ": an empty place")
    (cond (eqb n 14) (ascii ": exactly at the pole: choose another star") [])))))

-- what a plan's observer can be refused by; 64 radians are 3666.9 degrees
unfoldable pub observer_words : ℕ → List ℕ
observer_words n =
    cond (eqb n 3) (ascii ": LATITUDE or ALTITUDE is past 90 degrees, or an angle past 3666: check them")
    (cond (eqb n 4) (ascii ": LATITUDE is within 0.05 degrees of a pole: check it") [])

-- the number, and the words that all calls share
unfoldable pub number_words : ℕ → List ℕ
number_words n = refused_word ++ (decimal_text n ++ call_words n)

unfoldable pub refusal_text : ℕ → List ℕ
refusal_text n = number_words n ++ (star_words n ++ (line_end ∷ []))

-- of a plan's call, where 3 and 4 are the observer's and not a star's
unfoldable pub plan_refusal_text : ℕ → List ℕ
plan_refusal_text n = number_words n ++ (observer_words n ++ (line_end ∷ []))
