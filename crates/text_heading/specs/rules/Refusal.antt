-- The line of a refusal in words: of a sight, and of a mark's heading.
use Rattle.std.specs.Prelude.{ℕ, cond, List, [], ◌∷◌, ◌++◌, eqb}
use Rattle.text_number.specs.rules.Bytes.{ascii, line_end}
use Rattle.text_refusal.specs.rules.Refusal.{star_words, number_words}

-- what a sight can be refused by, where 3 is the observer's too, 10 the list's, and 14 the azimuth's too; 64 radians are 3666.9 degrees
unfoldable pub sight_words : ℕ → List ℕ
sight_words n =
    cond (eqb n 3) (ascii ": LATITUDE is past 90 degrees, LONGITUDE past 3666, or the star is carried past the pole: check them")
    (cond (eqb n 10) (ascii ": the list has no star of this number: check it")
    (cond (eqb n 14) (ascii ": the star stands straight overhead or exactly at the pole: choose another") (star_words n)))

-- what a mark's heading can be refused by
unfoldable pub mark_words : ℕ → List ℕ
mark_words n = cond (eqb n 3) (ascii ": a reading is not from 0 to below 360 degrees: check both") []

unfoldable pub sight_refusal_text : ℕ → List ℕ
sight_refusal_text n = number_words n ++ (sight_words n ++ (line_end ∷ []))

unfoldable pub mark_refusal_text : ℕ → List ℕ
mark_refusal_text n = number_words n ++ (mark_words n ++ (line_end ∷ []))
