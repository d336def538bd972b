-- Wrong variants of the moves between widths.
use Rattle.std.specs.Prelude.{ℕ, suc, ◌*◌, ◌%◌, Bool, cond, not, ◌&&◌, ◌||◌, List, eqb, leb, nat_abs, length}
use Rattle.quantity.specs.rules.Answer.{Answer, answered, refused}
use Rattle.list.specs.declared.Star.{Star}
use Rattle.list.specs.rules.Stars.{most_stars, is_list, stars, is_kept, kept, records_bytes, list_bytes, all_are, all_in_range}
use Rattle.list_widths.specs.rules.Narrow.{narrow_width, narrow_bytes, is_still, is_narrow, narrow_stars}

-- ---- up

abbrev pub one_star_too_many_up : List ℕ → Bool
one_star_too_many_up s = leb (length s) (narrow_width * suc most_stars) && eqb (length s % narrow_width) 0

-- bytes that are a list of 20 already
abbrev pub wide_taken_for_narrow : List ℕ → Bool
wide_taken_for_narrow s = is_list s

abbrev pub out_of_range_up : List ℕ → Answer (List ℕ)
out_of_range_up s = cond (is_narrow s) (answered (list_bytes (narrow_stars s))) (refused 8)

-- a record of number 0 left out, and one that is not looked at
abbrev pub empty_dropped_up : List ℕ → Answer (List ℕ)
empty_dropped_up s =
    cond (is_narrow s) (cond (all_in_range (narrow_stars s)) (answered (list_bytes (kept (narrow_stars s)))) (refused 9)) (refused 8)

abbrev pub empty_unchecked_up : List ℕ → Answer (List ℕ)
empty_unchecked_up s =
    cond (is_narrow s) (cond (all_in_range (kept (narrow_stars s))) (answered (list_bytes (narrow_stars s))) (refused 9)) (refused 8)

-- ---- down

abbrev down_by : (Star → Bool) → List ℕ → Answer (List ℕ)
down_by goes s =
    cond (is_list s)
    (cond (all_in_range (stars s)) (cond (all_are goes (stars s)) (answered (records_bytes narrow_bytes (stars s))) (refused 17)) (refused 9))
    (refused 8)

-- 17 left out: the yearly changes are lost
abbrev pub rates_lost : List ℕ → Answer (List ℕ)
rates_lost s = cond (is_list s) (cond (all_in_range (stars s)) (answered (records_bytes narrow_bytes (stars s))) (refused 9)) (refused 8)

-- the right ascension's alone asked
abbrev pub dec_rate_lost : List ℕ → Answer (List ℕ)
dec_rate_lost = down_by (λ (r : Star). eqb (nat_abs r.asc_rate) 0)

abbrev pub seventeen_before_nine : List ℕ → Answer (List ℕ)
seventeen_before_nine s =
    cond (is_list s)
    (cond (all_are is_still (stars s)) (cond (all_in_range (stars s)) (answered (records_bytes narrow_bytes (stars s))) (refused 9)) (refused 17))
    (refused 8)

-- a record of number 0 left out, and one whose yearly changes are not looked at
abbrev pub empty_dropped_down : List ℕ → Answer (List ℕ)
empty_dropped_down s =
    cond (is_list s)
    (cond (all_in_range (stars s)) (cond (all_are is_still (stars s)) (answered (records_bytes narrow_bytes (kept (stars s)))) (refused 17)) (refused 9))
    (refused 8)

abbrev pub empty_unchecked_down : List ℕ → Answer (List ℕ)
empty_unchecked_down = down_by (λ (r : Star). not (is_kept r) || is_still r)
