-- The text of a list: how many stars it keeps, a line for each, and how many are good and bad; a line with the star's yearly changes where
-- they are asked for. A text is a list of bytes.
use Rattle.std.specs.Prelude.{ℕ, ◌+◌, ◌-◌, Bool, cond, List, [], ◌∷◌, ◌++◌, length}
use Rattle.list.specs.rules.Record.{in_range}
use Rattle.list.specs.rules.Stars.{is_list, stars, kept}
use Rattle.list.specs.declared.Star.{Star}
use Rattle.text_number.specs.rules.Bytes.{ascii, space, line_end}
use Rattle.text_number.specs.rules.Number.{decimal_text, integer_text}
use Rattle.text_number.specs.rules.Refused.{refused_text}

-- words, and ends of lines
abbrev pub stars_word : List ℕ
stars_word = ascii "stars "

abbrev pub ok_end : List ℕ
ok_end = ascii " ok\n"

abbrev pub bad_end : List ℕ
bad_end = ascii " bad\n"

abbrev pub good_word : List ℕ
good_word = ascii "good "

abbrev pub bad_word : List ℕ
bad_word = ascii " bad "

-- right ascension and declination
unfoldable pub place_text : Star → List ℕ
place_text r = space ∷ (decimal_text r.asc ++ (space ∷ integer_text r.dec))

-- both yearly changes, where they are asked for
unfoldable pub rates_text : Bool → Star → List ℕ
rates_text rates r = cond rates (space ∷ (integer_text r.asc_rate ++ (space ∷ integer_text r.dec_rate))) []

-- the number and what follows it; of a star out of range the number alone
unfoldable pub line : Bool → Star → List ℕ
line rates r = decimal_text r.number ++ cond (in_range r) (place_text r ++ (rates_text rates r ++ ok_end)) bad_end

-- one for each star
abbrev pub lines : Bool → List Star → List ℕ
lines rates [] = []
lines rates (r ∷ rs) = line rates r ++ lines rates rs

-- how many are in range
abbrev pub goods : List Star → ℕ
goods [] = 0
goods (r ∷ rs) = cond (in_range r) 1 0 + goods rs

unfoldable pub heading : ℕ → List ℕ
heading n = stars_word ++ (decimal_text n ++ (line_end ∷ []))

unfoldable pub footing : ℕ → ℕ → List ℕ
footing good bad = good_word ++ (decimal_text good ++ (bad_word ++ (decimal_text bad ++ (line_end ∷ []))))

unfoldable pub sheet_in : Bool → List Star → List ℕ
sheet_in rates rs = heading (length rs) ++ (lines rates rs ++ footing (goods rs) (length rs - goods rs))

-- of the stars that are kept: an empty place has no line, and none of the three numbers counts it
unfoldable pub sheet_of : Bool → List ℕ → List ℕ
sheet_of rates s = cond (is_list s) (sheet_in rates (kept (stars s))) (refused_text 8)
