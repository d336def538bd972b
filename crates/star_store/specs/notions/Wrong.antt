-- Wrong variants of a star's refusal, of what is stored of its answer, and of a call's refusal and statuses.
use Rattle.std.specs.Prelude.{ℕ, cond, ◌&&◌, List, map, Float}
use Rattle.double.specs.rules.Operations.{zero, one}
use Rattle.quantity.specs.rules.Answer.{Answer, answered, refused, Pair, second, status_of}
use Rattle.quantity.specs.rules.Refusal.{latitude_refusal}
use Rattle.precess_angles.specs.rules.Days.{days_refusal}
use Rattle.list.specs.declared.Star.{Star}
use Rattle.list.specs.rules.Record.{in_range}
use Rattle.list.specs.rules.Stars.{is_list, count_of, stars, is_kept, nth}
use Rattle.list_tally.specs.declared.Tally.{Tally}
use Rattle.list_tally.specs.rules.Tally.{tally_of}
use Rattle.star_place.specs.rules.Place.{record_dec, dec_of}
use Rattle.star_store.specs.rules.Star.{earlier, second_of}
use Rattle.star_store.specs.rules.Stored.{has_room, store_refusal}

-- ---- one star

abbrev pub three_before_nine : Star → Float → ℕ
three_before_nine star years = cond (is_kept star) (earlier (latitude_refusal (dec_of star years)) (cond (in_range star) 0 9)) 10

-- 9 for an empty place whose rest is out of range
abbrev pub nine_before_ten : Star → Float → ℕ
nine_before_ten star years = cond (in_range star) (cond (is_kept star) (latitude_refusal (dec_of star years)) 10) 9

-- an empty place reduced as a star of number 0
abbrev pub empty_place_reduced : Star → Float → ℕ
empty_place_reduced star years = cond (in_range star) (latitude_refusal (dec_of star years)) 9

-- of the declination unshifted
abbrev pub three_of_the_record : Star → Float → ℕ
three_of_the_record star years = cond (is_kept star) (cond (in_range star) (latitude_refusal (record_dec star)) 9) 10

-- the place's refusal before the star's
abbrev pub later_before_earlier : ℕ → ℕ → ℕ
later_before_earlier refusal later = earlier later refusal

-- ---- what is stored

abbrev pub status_always_good : Answer Pair → ℕ
status_always_good a = 0

abbrev pub angle_always_zero : Answer Pair → Float
angle_always_zero a = zero

-- the second for the first
abbrev pub angles_traded : Answer Pair → Float
angles_traded = second_of

-- 1.0 where there is none
abbrev pub refused_star_keeps_angle : Answer Pair → Float
refused_star_keeps_angle (answered p) = second p
refused_star_keeps_angle (refused n) = one

-- ---- the list

-- the first star's answer for every star
abbrev pub first_star_copied_on : (Star → Answer Pair) → List ℕ → List ℕ
first_star_copied_on rule s = map (λ (star : Star). status_of (rule (nth s 0))) (stars s)

-- every star counted as answered
abbrev pub invented_tally : List ℕ → Tally
invented_tally statuses = tally_of (map (λ (n : ℕ). 0) statuses)

-- each slice as it came
abbrev pub nothing_written : List ℕ → List ℕ → List ℕ
nothing_written new old = old

-- the slice of right ascensions tested by the length of that of statuses
abbrev pub short_slice_accepted : List ℕ → Float → Float → ℕ → ℕ → ℕ → ℕ
short_slice_accepted s day1 day2 status asc dec = store_refusal s day1 day2 status status dec

-- 8 first
abbrev pub days_after_list : List ℕ → Float → Float → ℕ → ℕ → ℕ → ℕ
days_after_list s day1 day2 status asc dec =
    cond (is_list s && has_room (count_of s) status asc dec) (days_refusal day1 day2) 8
