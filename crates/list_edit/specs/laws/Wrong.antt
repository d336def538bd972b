-- Wrong variants are excluded: each differs from the rule at the input stated. The rules vary: a library that refuses everything, or
-- answers a constant, does not meet them.
use Rattle.std.specs.Prelude.{ℕ, ◌≡◌, refl, List, [], ◌∷◌, ◌++◌, replicate, ◌≢◌}
use Rattle.double.specs.laws.Apart.{apart}
use Rattle.quantity.specs.rules.Answer.{refused, then}
use Rattle.quantity.specs.notions.Code.{of_answer}
use Rattle.quantity.specs.notions.Varies.{Varies}
use Rattle.lent.specs.notions.Code.{of_bytes}
use Rattle.list.specs.rules.Record.{width}
use Rattle.list.specs.declared.Star.{Star}
use Rattle.list_edit.specs.rules.Edit.{strike_in, add_in, gathered, strike_rule, add_rule, gather_rule}
use Rattle.list_edit.specs.notions.Computed.{computed}
use Rattle.list_edit.specs.notions.Wrong.{star, of_stars, last_struck, only_number_zeroed, zero_struck, only_in_range_struck, ten_before_eight}
use Rattle.list_edit.specs.notions.Wrong.{last_empty_taken, old_bytes_left, zero_added, present_among_those_in_range}
use Rattle.list_edit.specs.notions.Wrong.{nineteen_before_eighteen, eighteen_before_nine, nine_before_eight}
use Rattle.list_edit.specs.notions.Wrong.{out_of_range_dropped, order_turned, old_records_left_behind, last_star_dropped}

-- two stars of one number, with empty places before and between them, the first with old bytes behind its 0
abbrev two : List Star
two = star 0 7 ∷ star 5 1 ∷ star 0 0 ∷ star 5 2 ∷ []

-- no empty place, and one star out of range
abbrev no_empty : List Star
no_empty = star 5 1 ∷ star 6 1300000000 ∷ []

-- an empty place in front of these
abbrev mixed : List Star
mixed = star 0 7 ∷ no_empty

-- an empty place, and a star with the number 1 behind it
abbrev empty_and_one : List ℕ
empty_and_one = replicate width 0 ++ (1 ∷ replicate 19 0)

-- ---- strike

pub strike_varies : Varies (strike_rule empty_and_one 1) (strike_rule (2 ∷ replicate 19 0) 2)
unfolding computed
strike_varies = record { here = refl; there = refl; apart = apart (of_answer of_bytes) refl }

pub last_struck_excluded : last_struck 5 two ≢ strike_in 5 two
unfolding computed
last_struck_excluded = apart (of_answer of_stars) refl

pub only_number_zeroed_excluded : only_number_zeroed 5 two ≢ strike_in 5 two
unfolding computed
only_number_zeroed_excluded = apart (of_answer of_stars) refl

pub zero_struck_excluded : zero_struck 0 two ≢ strike_in 0 two
unfolding computed
zero_struck_excluded = apart (of_answer of_stars) refl

pub only_in_range_struck_excluded : only_in_range_struck 6 no_empty ≢ strike_in 6 no_empty
unfolding computed
only_in_range_struck_excluded = apart (of_answer of_stars) refl

-- a number that stands twice, in a list from elsewhere: struck once, it is still present
pub twice_listed_still_present : then (strike_in 5 two) (add_in (star 5 3)) ≡ refused 18
unfolding computed then
twice_listed_still_present = refl

-- one byte is no list
pub ten_before_eight_excluded : ten_before_eight (7 ∷ []) 0 ≢ strike_rule (7 ∷ []) 0
unfolding computed
ten_before_eight_excluded = apart (of_answer of_bytes) refl

-- ---- add

pub add_varies : Varies (add_rule empty_and_one (star 2 0)) (add_rule empty_and_one (star 3 0))
unfolding computed
add_varies = record { here = refl; there = refl; apart = apart (of_answer of_bytes) refl }

pub last_empty_taken_excluded : last_empty_taken (star 8 3) two ≢ add_in (star 8 3) two
unfolding computed
last_empty_taken_excluded = apart (of_answer of_stars) refl

pub old_bytes_left_excluded : old_bytes_left (star 8 3) two ≢ add_in (star 8 3) two
unfolding computed
old_bytes_left_excluded = apart (of_answer of_stars) refl

pub zero_added_excluded : zero_added (star 0 3) two ≢ add_in (star 0 3) two
unfolding computed
zero_added_excluded = apart (of_answer of_stars) refl

pub present_among_those_in_range_excluded : present_among_those_in_range (star 6 3) mixed ≢ add_in (star 6 3) mixed
unfolding computed
present_among_those_in_range_excluded = apart (of_answer of_stars) refl

pub nineteen_before_eighteen_excluded : nineteen_before_eighteen (star 5 3) no_empty ≢ add_in (star 5 3) no_empty
unfolding computed
nineteen_before_eighteen_excluded = apart (of_answer of_stars) refl

pub eighteen_before_nine_excluded : eighteen_before_nine (star 5 1300000000) no_empty ≢ add_in (star 5 1300000000) no_empty
unfolding computed
eighteen_before_nine_excluded = apart (of_answer of_stars) refl

pub nine_before_eight_excluded : nine_before_eight (7 ∷ []) (star 0 0) ≢ add_rule (7 ∷ []) (star 0 0)
unfolding computed
nine_before_eight_excluded = apart (of_answer of_bytes) refl

-- ---- gather

pub gather_varies : Varies (gather_rule empty_and_one) (gather_rule [])
unfolding computed
gather_varies = record { here = refl; there = refl; apart = apart (of_answer of_bytes) refl }

pub out_of_range_dropped_excluded : out_of_range_dropped mixed ≢ gathered mixed
unfolding computed
out_of_range_dropped_excluded = apart of_stars refl

pub order_turned_excluded : order_turned mixed ≢ gathered mixed
unfolding computed
order_turned_excluded = apart of_stars refl

pub old_records_left_behind_excluded : old_records_left_behind mixed ≢ gathered mixed
unfolding computed
old_records_left_behind_excluded = apart of_stars refl

pub last_star_dropped_excluded : last_star_dropped mixed ≢ gathered mixed
unfolding computed
last_star_dropped_excluded = apart of_stars refl
