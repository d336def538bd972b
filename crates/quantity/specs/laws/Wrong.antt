-- Wrong variants are excluded: each differs from the rule at the input stated.
use Rattle.std.specs.Prelude.{refl, false, ◌≢◌, Ok, Err}
use Rattle.std.specs.Float.{inf}
use Rattle.double.specs.rules.Operations.{bits, zero, one}
use Rattle.double.specs.rules.Table.{decimal}
use Rattle.double.specs.notions.Code.{of_number}
use Rattle.double.specs.laws.Apart.{apart}
use Rattle.quantity.specs.declared.Places.{Places}
use Rattle.quantity.specs.declared.Refusal.{Refusal}
use Rattle.quantity.specs.declared.Refusal.TheVariants.{Arcsine}
use Rattle.quantity.specs.rules.Angle.{rad}
use Rattle.quantity.specs.rules.Answer.{answered, first_place, second_place, plus, added_to, taken_from, both}
use Rattle.quantity.specs.rules.Refusal.{lower, past, number_refusal, day_refusal, angle_refusal, latitude_refusal, steep_refusal, distance_refusal}
use Rattle.quantity.specs.rules.Refusal.{height_refusal, least_distance}
use Rattle.quantity.specs.notions.Computed.{computed}
use Rattle.quantity.specs.notions.Code.{of_float, of_rad, of_pair, of_answer}
use Rattle.quantity.specs.notions.Wrong.{refused_place_answered, refused_by_the_other, places_mixed, plus_takes_away, added_to_drops_the_angle}
use Rattle.quantity.specs.notions.Wrong.{taken_from_the_other_way, both_traded, lower_is_higher, number_lets_infinity_in, past_takes_the_limit_in}
use Rattle.quantity.specs.notions.Wrong.{day_limit_off, angle_limit_off, steepest_off, steep_limit_off, distance_limit_off, every_angle_refused}
use Rattle.quantity.specs.notions.Wrong.{latitude_limit_is_an_angles, height_from_the_sea}
use Rattle.quantity.specs.notions.Stated.{r1, r2}

-- ---- two places side by side: the first is refused, the second is not

abbrev beside : Places Refusal
beside =
    record {
      first_asc = one;
      second_asc = one;
      first_dec = one;
      second_dec = zero;
      first_check = Err Arcsine;
      second_check = Ok tt;
    }

pub refused_place_answered_excluded : refused_place_answered beside ≢ first_place beside
unfolding computed
refused_place_answered_excluded = apart (of_answer of_pair) refl

pub refused_by_the_other_excluded : refused_by_the_other beside ≢ first_place beside
unfolding computed
refused_by_the_other_excluded = apart (of_answer of_pair) refl

pub places_mixed_excluded : places_mixed beside ≢ second_place beside
unfolding computed
places_mixed_excluded = apart (of_answer of_pair) refl

-- ---- what is done with answers

pub plus_takes_away_excluded : plus_takes_away (answered r1) r1 ≢ plus (answered r1) r1
unfolding computed
plus_takes_away_excluded = apart (of_answer of_rad) refl

pub added_to_drops_the_angle_excluded : added_to_drops_the_angle r1 (answered r1) ≢ added_to r1 (answered r1)
unfolding computed
added_to_drops_the_angle_excluded = apart (of_answer of_rad) refl

pub taken_from_the_other_way_excluded : taken_from_the_other_way r1 (answered r2) ≢ taken_from r1 (answered r2)
unfolding computed
taken_from_the_other_way_excluded = apart (of_answer of_rad) refl

pub both_traded_excluded : both_traded (answered r1) (answered r2) ≢ both (answered r1) (answered r2)
unfolding computed
both_traded_excluded = apart (of_answer of_pair) refl

-- ---- refusals

pub lower_is_higher_excluded : lower_is_higher 1 3 ≢ lower 1 3
lower_is_higher_excluded = apart of_number refl

pub number_lets_infinity_in_excluded : number_lets_infinity_in (inf false) ≢ number_refusal (inf false)
unfolding computed
number_lets_infinity_in_excluded = apart of_number refl

pub past_takes_the_limit_in_excluded : past_takes_the_limit_in one one 3 ≢ past one one 3
unfolding computed
past_takes_the_limit_in_excluded = apart of_number refl

-- the next double above 3182045.0
pub day_limit_off_excluded : day_limit_off (bits 0x414846ee80000001) ≢ day_refusal (bits 0x414846ee80000001)
unfolding computed
day_limit_off_excluded = apart of_number refl

-- the next double above 64.0
pub angle_limit_off_excluded : angle_limit_off (rad (bits 0x4050000000000001)) ≢ angle_refusal (rad (bits 0x4050000000000001))
unfolding computed
angle_limit_off_excluded = apart of_number refl

pub steep_limit_off_excluded : steep_limit_off (rad steepest_off) ≢ steep_refusal (rad steepest_off)
unfolding computed
steep_limit_off_excluded = apart of_number refl

-- nor can rule and code move together: 1.57 is the paper's decimal
pub steepest_off_excluded : steepest_off ≢ decimal 157 2
unfolding computed
steepest_off_excluded = apart of_float refl

pub distance_limit_off_excluded : distance_limit_off least_distance ≢ distance_refusal least_distance
unfolding computed
distance_limit_off_excluded = apart of_number refl

pub every_angle_refused_excluded : every_angle_refused r1 ≢ angle_refusal r1
unfolding computed
every_angle_refused_excluded = apart of_number refl

pub latitude_limit_is_an_angles_excluded : latitude_limit_is_an_angles r2 ≢ latitude_refusal r2
unfolding computed
latitude_limit_is_an_angles_excluded = apart of_number refl

-- one metre below the sea
pub height_from_the_sea_excluded : height_from_the_sea (bits 0xbff0000000000000) ≢ height_refusal (bits 0xbff0000000000000)
unfolding computed
height_from_the_sea_excluded = apart of_number refl
