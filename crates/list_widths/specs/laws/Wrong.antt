-- Wrong variants are excluded: each differs from the rule at the input stated. The rules vary: a library that refuses everything, or
-- answers a constant, does not meet them.
use Rattle.std.specs.Prelude.{ℕ, suc, ◌*◌, ◌≡◌, refl, List, [], ◌∷◌, ◌++◌, length, ◌≢◌}
use Rattle.double.specs.notions.Code.{of_flag}
use Rattle.double.specs.laws.Apart.{apart}
use Rattle.quantity.specs.notions.Code.{of_answer}
use Rattle.quantity.specs.notions.Varies.{Varies}
use Rattle.lent.specs.rules.Rows.{upto}
use Rattle.lent.specs.notions.Code.{of_bytes}
use Rattle.list.specs.rules.Record.{width}
use Rattle.list.specs.rules.Stars.{most_stars}
use Rattle.list_widths.specs.rules.Narrow.{narrow_width, is_narrow}
use Rattle.list_widths.specs.rules.Widths.{to_wide, to_narrow}
use Rattle.list_widths.specs.notions.Computed.{computed}
use Rattle.list_widths.specs.notions.Wrong.{one_star_too_many_up, wide_taken_for_narrow, out_of_range_up, rates_lost, dec_rate_lost, seventeen_before_nine}
use Rattle.list_widths.specs.notions.Wrong.{empty_dropped_up, empty_unchecked_up, empty_dropped_down, empty_unchecked_down}

abbrev zeros : ℕ → List ℕ
zeros n = upto n (λ (i : ℕ). 0)

-- ---- up

pub up_varies : Varies (to_wide (zeros narrow_width)) (to_wide [])
unfolding computed
up_varies = record { here = refl; there = refl; apart = apart (of_answer of_bytes) refl }

-- of any bytes for one star more than a list may have
pub one_star_too_many_up_excluded : (s : List ℕ) → length s ≡ narrow_width * suc most_stars → one_star_too_many_up s ≢ is_narrow s
unfolding computed
one_star_too_many_up_excluded s h = rw h (apart of_flag refl)

-- of any bytes for one star of 20
pub wide_taken_for_narrow_excluded : (s : List ℕ) → length s ≡ width → wide_taken_for_narrow s ≢ is_narrow s
unfolding computed
wide_taken_for_narrow_excluded s h = rw h (apart of_flag refl)

-- a right ascension of 255·2^24
abbrev far : List ℕ
far = zeros 7 ++ (255 ∷ zeros 4)

pub out_of_range_up_excluded : out_of_range_up far ≢ to_wide far
unfolding computed
out_of_range_up_excluded = apart (of_answer of_bytes) refl

-- an empty place, and one that is out of range
pub empty_dropped_up_excluded : empty_dropped_up (zeros narrow_width) ≢ to_wide (zeros narrow_width)
unfolding computed
empty_dropped_up_excluded = apart (of_answer of_bytes) refl

pub empty_unchecked_up_excluded : empty_unchecked_up far ≢ to_wide far
unfolding computed
empty_unchecked_up_excluded = apart (of_answer of_bytes) refl

-- ---- down

pub down_varies : Varies (to_narrow (zeros width)) (to_narrow [])
unfolding computed
down_varies = record { here = refl; there = refl; apart = apart (of_answer of_bytes) refl }

-- a star whose declination changes, and after it one out of range
abbrev moving : List ℕ
moving = zeros 16 ++ (1 ∷ zeros 3)

pub rates_lost_excluded : rates_lost moving ≢ to_narrow moving
unfolding computed
rates_lost_excluded = apart (of_answer of_bytes) refl

pub dec_rate_lost_excluded : dec_rate_lost moving ≢ to_narrow moving
unfolding computed
dec_rate_lost_excluded = apart (of_answer of_bytes) refl

abbrev damaged : List ℕ
damaged = moving ++ (zeros 7 ++ (255 ∷ zeros 12))

pub seventeen_before_nine_excluded : seventeen_before_nine damaged ≢ to_narrow damaged
unfolding computed
seventeen_before_nine_excluded = apart (of_answer of_bytes) refl

-- an empty place, and one that moves
pub empty_dropped_down_excluded : empty_dropped_down (zeros width) ≢ to_narrow (zeros width)
unfolding computed
empty_dropped_down_excluded = apart (of_answer of_bytes) refl

pub empty_unchecked_down_excluded : empty_unchecked_down moving ≢ to_narrow moving
unfolding computed
empty_unchecked_down_excluded = apart (of_answer of_bytes) refl
