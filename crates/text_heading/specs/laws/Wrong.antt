-- Wrong variants are excluded: each differs from the rule at the input stated. The constants are their decimals.
use Rattle.std.specs.Prelude.{refl, List, [], ◌∷◌, Float, ◌≢◌}
use Rattle.std.specs.Float.Ieee.{of_bits, round}
use Rattle.double.specs.rules.Operations.{bits, one}
use Rattle.double.specs.rules.Table.{Row, ◌is◌, Agrees, decimal}
use Rattle.double.specs.laws.Apart.{apart}
use Rattle.quantity.specs.declared.Deg.{Deg}
use Rattle.quantity.specs.rules.Angle.{deg}
use Rattle.quantity.specs.rules.Answer.{answered, refused}
use Rattle.edition.specs.declared.Edition.TheVariants.{Published}
use Rattle.text_number.specs.notions.Code.{of_text}
use Rattle.text_heading.specs.rules.Angle.{tenths_of_degree, tenths_of, arc_text, angle_text, circle_text}
use Rattle.text_heading.specs.rules.Place.{hundredths_of_degree, place_text}
use Rattle.text_heading.specs.rules.Edition.{edition_text}
use Rattle.text_heading.specs.rules.Altitude.{near_zenith, altitude_text}
use Rattle.text_heading.specs.rules.Refusal.{sight_refusal_text, mark_refusal_text}
use Rattle.text_heading.specs.notions.Computed.{computed}
use Rattle.text_heading.specs.notions.Wrong.{seconds_not_carried, whole_turn_printed, sign_lost, east_for_west, south_for_north}
use Rattle.text_heading.specs.notions.Wrong.{edition_unsaid, nothing_said, sight_as_star, mark_as_sight}

abbrev rows : List (Row Float)
rows = (tenths_of_degree is decimal 36000 0) ∷ (hundredths_of_degree is decimal 100 0) ∷ (near_zenith is decimal 89 0) ∷ []

pub constants : Agrees rows
unfolding of_bits round
constants = refl

-- 1.0, −1.0 and 89.5 degrees
abbrev d1 : Deg
d1 = deg one

abbrev below : Deg
below = deg (bits 0xbff0000000000000)

abbrev overhead : Deg
overhead = deg (bits 0x4056600000000000)

-- 9.99999 and 359.99999
abbrev below_ten : Deg
below_ten = deg (bits 0x4023fffeb074a772)

abbrev below_turn : Deg
below_turn = deg (bits 0x40767ffff583a53c)

-- ---- an angle

pub seconds_not_carried_excluded : seconds_not_carried below_ten ≢ arc_text (tenths_of below_ten)
unfolding computed
seconds_not_carried_excluded = apart of_text refl

pub whole_turn_printed_excluded : whole_turn_printed below_turn ≢ circle_text below_turn
unfolding computed
whole_turn_printed_excluded = apart of_text refl

pub sign_lost_excluded : sign_lost below ≢ angle_text below
unfolding computed
sign_lost_excluded = apart of_text refl

-- ---- the observer's place

pub east_for_west_excluded : east_for_west d1 d1 ≢ place_text d1 d1
unfolding computed
east_for_west_excluded = apart of_text refl

pub south_for_north_excluded : south_for_north d1 d1 ≢ place_text d1 d1
unfolding computed
south_for_north_excluded = apart of_text refl

-- ---- the edition

pub edition_unsaid_excluded : edition_unsaid Published ≢ edition_text Published
unfolding computed
edition_unsaid_excluded = apart of_text refl

-- ---- an altitude

pub below_the_horizon_said : nothing_said below (refused 3) ≢ altitude_text below (refused 3)
unfolding computed
below_the_horizon_said = apart of_text refl

pub near_the_zenith_said : nothing_said overhead (answered overhead) ≢ altitude_text overhead (answered overhead)
unfolding computed
near_the_zenith_said = apart of_text refl

-- ---- a refusal

pub sight_as_star_excluded : sight_as_star 10 ≢ sight_refusal_text 10
unfolding computed
sight_as_star_excluded = apart of_text refl

pub mark_as_sight_excluded : mark_as_sight 3 ≢ mark_refusal_text 3
unfolding computed
mark_as_sight_excluded = apart of_text refl
