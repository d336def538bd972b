-- Wrong variants of what is done with answers, and of refusals.
use Rattle.std.specs.Prelude.{ℕ, cond, eqb, leb, Float}
use Rattle.std.specs.Float.Ieee.{le, lt}
use Rattle.double.specs.rules.Operations.{bits, zero, ◌⊖◌}
use Rattle.double.specs.rules.Sign.{size, is_finite}
use Rattle.quantity.specs.declared.Rad.{Rad}
use Rattle.quantity.specs.declared.Places.{Places}
use Rattle.quantity.specs.declared.Refusal.{Refusal}
use Rattle.quantity.specs.rules.Angle.{rad}
use Rattle.quantity.specs.rules.Answer.{Answer, answered, refused, checked, Pair, pair, unless, with, then}
use Rattle.quantity.specs.rules.Refusal.{lower, past, outside, epoch, farthest, most_distance, most_height, latitude_refusal}

-- ---- two places side by side

-- whatever its number
abbrev pub refused_place_answered : Places Refusal → Answer Pair
refused_place_answered p = answered (pair p.first_asc p.first_dec)

-- refused by the other's number
abbrev pub refused_by_the_other : Places Refusal → Answer Pair
refused_by_the_other p = unless (checked p.second_check) (answered (pair p.first_asc p.first_dec))

-- with the other's declination
abbrev pub places_mixed : Places Refusal → Answer Pair
places_mixed p = unless (checked p.second_check) (answered (pair p.second_asc p.first_dec))

-- ---- what is done with answers

abbrev pub plus_takes_away : Answer Rad → Rad → Answer Rad
plus_takes_away a z = with (λ (x : Rad). rad (x.0 ⊖ z.0)) a

abbrev pub added_to_drops_the_angle : Rad → Answer Rad → Answer Rad
added_to_drops_the_angle z a = then a (λ (x : Rad). refused 7)

abbrev pub taken_from_the_other_way : Rad → Answer Rad → Answer Rad
taken_from_the_other_way z a = with (λ (x : Rad). rad (x.0 ⊖ z.0)) a

abbrev pub both_traded : Answer Rad → Answer Rad → Answer Pair
both_traded a b = then a (λ (x : Rad). with (λ (y : Rad). pair y.0 x.0) b)

-- ---- refusals

abbrev pub lower_is_higher : ℕ → ℕ → ℕ
lower_is_higher a b = cond (eqb a 0) b (cond (eqb b 0) a (cond (leb a b) b a))

-- an infinity let in
abbrev pub number_lets_infinity_in : Float → ℕ
number_lets_infinity_in x = 0

-- the limit itself refused
abbrev pub past_takes_the_limit_in : Float → Float → ℕ → ℕ
past_takes_the_limit_in x limit n = cond (is_finite x) (cond (le limit (size x)) n 0) 1

-- each limit one double on: past 3182045.0, 64.0 and 1.57, and above 0.0001
abbrev pub day_limit_off : Float → ℕ
day_limit_off day = cond (is_finite day) (cond (lt (bits 0x41264b0800000004) (size (day ⊖ epoch))) 2 0) 1

abbrev pub angle_limit_off : Rad → ℕ
angle_limit_off x = past x.0 (bits 0x4050000000000001) 3

abbrev pub steepest_off : Float
steepest_off = bits 0x3ff91eb851eb8520

abbrev pub steep_limit_off : Rad → ℕ
steep_limit_off x = lower (latitude_refusal x) (past x.0 steepest_off 4)

abbrev pub distance_limit_off : Float → ℕ
distance_limit_off x = outside x (bits 0x3f1a36e2eb1c432e) most_distance 5

abbrev pub every_angle_refused : Rad → ℕ
every_angle_refused x = past x.0 zero 3

abbrev pub latitude_limit_is_an_angles : Rad → ℕ
latitude_limit_is_an_angles x = past x.0 farthest 3

-- a height below the sea refused
abbrev pub height_from_the_sea : Float → ℕ
height_from_the_sea x = outside x zero most_height 5
