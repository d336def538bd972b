-- Wrong variants of striking, adding and gathering, and stars as one number, by which `apart` tells lists of them apart.
use Rattle.std.specs.Prelude.{ℕ, suc, ◌+◌, ◌*◌, ◌-◌, Bool, false, cond, not, ◌&&◌, List, [], ◌∷◌, ◌++◌, eqb, pos, length, set, get_or, drop, replicate}
use Rattle.quantity.specs.rules.Answer.{Answer, answered, refused, with}
use Rattle.list.specs.rules.Record.{in_range}
use Rattle.list.specs.rules.Stars.{is_list, stars, is_kept, kept, nought, list_bytes}
use Rattle.list.specs.rules.Find.{index_of}
use Rattle.list.specs.declared.Star.{Star}
use Rattle.list_edit.specs.rules.Edit.{is_present, strike_in, add_in}

-- a star with a number and a right ascension
abbrev pub star : ℕ → ℕ → Star
star n a = record { number = n; asc = a; dec = pos 0; asc_rate = pos 0; dec_rate = pos 0 }

abbrev pub of_stars : List Star → ℕ
of_stars [] = 1
of_stars (r ∷ rs) = r.number + 10 * r.asc + 100000000000 * of_stars rs

-- the index of the last with the number
abbrev last_index_of : ℕ → List Star → ℕ
last_index_of number [] = 0
last_index_of number (r ∷ rs) = cond (is_present number rs) (suc (last_index_of number rs)) (index_of number (r ∷ rs))

-- those in range
abbrev ranged : List Star → List Star
ranged [] = []
ranged (r ∷ rs) = cond (in_range r) (r ∷ ranged rs) (ranged rs)

-- ---- strike

abbrev striking : ℕ → List Star → List Star → Answer (List Star)
striking number rs ts = cond (not (eqb number 0) && is_present number rs) (answered ts) (refused 10)

abbrev pub last_struck : ℕ → List Star → Answer (List Star)
last_struck number rs = striking number rs (set rs (last_index_of number rs) nought)

abbrev pub only_number_zeroed : ℕ → List Star → Answer (List Star)
only_number_zeroed number rs =
    let i = index_of number rs in
    striking number rs (set rs i (star 0 (get_or rs i nought).asc))

abbrev pub zero_struck : ℕ → List Star → Answer (List Star)
zero_struck number rs = cond (is_present number rs) (answered (set rs (index_of number rs) nought)) (refused 10)

-- one out of range passed over
abbrev pub only_in_range_struck : ℕ → List Star → Answer (List Star)
only_in_range_struck number rs = cond (is_present number (ranged rs)) (strike_in number rs) (refused 10)

-- 10 for number 0, before the bytes' own 8
abbrev pub ten_before_eight : List ℕ → ℕ → Answer (List ℕ)
ten_before_eight s number =
    cond (eqb number 0) (refused 10) (cond (is_list s) (with list_bytes (strike_in number (stars s))) (refused 8))

-- ---- add

abbrev adding : Bool → Bool → Bool → List Star → Answer (List Star)
adding good present empty ts = cond good (cond present (refused 18) (cond empty (answered ts) (refused 19))) (refused 9)

-- in another place
abbrev placing : Star → List Star → List Star → Answer (List Star)
placing r rs ts = adding (is_kept r && in_range r) (is_present r.number rs) (is_present 0 rs) ts

abbrev pub last_empty_taken : Star → List Star → Answer (List Star)
last_empty_taken r rs = placing r rs (set rs (last_index_of 0 rs) r)

-- what stood behind the 0 of the empty place is left
abbrev pub old_bytes_left : Star → List Star → Answer (List Star)
old_bytes_left r rs = placing r rs (set rs (index_of 0 rs) (star r.number (get_or rs (index_of 0 rs) nought).asc))

abbrev pub zero_added : Star → List Star → Answer (List Star)
zero_added r rs = adding (in_range r) false (is_present 0 rs) (set rs (index_of 0 rs) r)

abbrev pub present_among_those_in_range : Star → List Star → Answer (List Star)
present_among_those_in_range r rs =
    adding (is_kept r && in_range r) (is_present r.number (ranged rs)) (is_present 0 rs) (set rs (index_of 0 rs) r)

abbrev pub nineteen_before_eighteen : Star → List Star → Answer (List Star)
nineteen_before_eighteen r rs = cond (is_kept r && in_range r && not (is_present 0 rs)) (refused 19) (add_in r rs)

abbrev pub eighteen_before_nine : Star → List Star → Answer (List Star)
eighteen_before_nine r rs = cond (is_present r.number rs) (refused 18) (add_in r rs)

-- 9 for the star, before the bytes' own 8
abbrev pub nine_before_eight : List ℕ → Star → Answer (List ℕ)
nine_before_eight s r =
    cond (is_kept r && in_range r) (cond (is_list s) (with list_bytes (add_in r (stars s))) (refused 8)) (refused 9)

-- ---- gather

abbrev filled : List Star → List Star → List Star
filled ks rs = ks ++ replicate (length rs - length ks) nought

abbrev pub out_of_range_dropped : List Star → List Star
out_of_range_dropped rs = filled (kept (ranged rs)) rs

abbrev turned : List Star → List Star
turned [] = []
turned (r ∷ rs) = turned rs ++ (r ∷ [])

abbrev pub order_turned : List Star → List Star
order_turned rs = filled (turned (kept rs)) rs

abbrev pub old_records_left_behind : List Star → List Star
old_records_left_behind rs = kept rs ++ drop (length (kept rs)) rs

-- without the last
abbrev but_last : List Star → List Star
but_last [] = []
but_last (r ∷ []) = []
but_last (r ∷ q ∷ rs) = r ∷ but_last (q ∷ rs)

abbrev pub last_star_dropped : List Star → List Star
last_star_dropped rs = filled (but_last (kept rs)) rs
