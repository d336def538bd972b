-- Wrong variants of the moves.
use Rattle.std.specs.Prelude.{ℕ, false, cond, List, reverse, map}
use Rattle.quantity.specs.rules.Answer.{Answer, answered, refused, with}
use Rattle.list.specs.declared.Star.{Star}
use Rattle.list.specs.rules.Stars.{is_list, stars, kept, list_bytes, all_in_range}
use Rattle.list_radio.specs.rules.Star.{star_of}
use Rattle.list_radio.specs.rules.Radio.{radio_bytes, radio_stars}
use Rattle.list_radio.specs.notions.Good.{form_numbers, form_bytes}

-- a record out of range moved
abbrev pub moves_out_of_range : List ℕ → Answer (List ℕ)
moves_out_of_range s = cond (is_list s) (answered (radio_bytes (stars s))) (refused 8)

-- 9 for a record, before 8 for bytes that are no list
abbrev pub nine_before_eight : List ℕ → Answer (List ℕ)
nine_before_eight s = cond (all_in_range (stars s)) (cond (is_list s) (answered (radio_bytes (stars s))) (refused 8)) (refused 9)

-- the last star first
abbrev pub stars_reversed : List ℕ → Answer (List ℕ)
stars_reversed s = with (λ (rs : List Star). list_bytes (reverse rs)) (radio_stars s)

-- the radio list of before: byte 2, and three numbers a star
abbrev pub byte_two_written : List ℕ → Answer (List ℕ)
byte_two_written s = cond (is_list s) (cond (all_in_range (stars s)) (answered (form_bytes false (stars s))) (refused 9)) (refused 8)

-- yearly changes that are read and not written
abbrev pub rates_dropped : List ℕ → Answer (List ℕ)
rates_dropped s =
    with (λ (rs : List Star). list_bytes (map (λ (r : Star). star_of (form_numbers false r)) rs)) (radio_stars s)

-- stars of number 0 left out
abbrev pub empty_dropped_to_radio : List ℕ → Answer (List ℕ)
empty_dropped_to_radio s = cond (is_list s) (cond (all_in_range (stars s)) (answered (radio_bytes (kept (stars s)))) (refused 9)) (refused 8)

abbrev pub empty_dropped_to_list : List ℕ → Answer (List ℕ)
empty_dropped_to_list s = with (λ (rs : List Star). list_bytes (kept rs)) (radio_stars s)
