-- Wrong variants are excluded: each differs from the rule at the input stated. The rule varies: neither refusing everything nor a constant
-- meets it.
use Rattle.std.specs.Prelude.{ℕ, ◌≡◌, refl, [], ◌∷◌, negsuc, ◌≢◌}
use Rattle.double.specs.rules.Operations.{zero}
use Rattle.double.specs.notions.Code.{of_number}
use Rattle.double.specs.laws.Apart.{apart}
use Rattle.quantity.specs.declared.Deg.{Deg}
use Rattle.quantity.specs.rules.Angle.{deg}
use Rattle.quantity.specs.rules.Answer.{answered, with}
use Rattle.quantity.specs.notions.Varies.{Varies}
use Rattle.quantity.specs.notions.Code.{of_float, of_deg, of_answer}
use Rattle.helpers.specs.rules.Circle.{circle_refusal}
use Rattle.residual_sheet.specs.notions.Wrong.{of_residual}
use Rattle.residual_sheet.specs.rules.Residuals.{least_refusal}
use Rattle.heading_mean.specs.rules.Residual.{residual_from}
use Rattle.heading_mean.specs.rules.Reference.{heading_of, vote}
use Rattle.heading_mean.specs.rules.Mean.{bits_refusal, number_refusal, mean_of, mean_heading_rule}
use Rattle.heading_mean.specs.rules.Spread.{spread_of, mean_error}
use Rattle.heading_mean.specs.notions.Computed.{computed, spread}
use Rattle.heading_mean.specs.notions.Wrong.{of_mean, heading_in, raw_mean, aside_in_the_count, fold_left_out, whole_turn_kept, other_way, west_not_taken_back}
use Rattle.heading_mean.specs.notions.Wrong.{aside_at_the_limit, first_always, mean_where_none_agree, half_of_them_enough, three_before_one, whole_turn_let_in}
use Rattle.heading_mean.specs.notions.Wrong.{spread_over_all, spread_about_the_reference, error_of_one_sight, one_sight_more, none_not_refused}

-- the bits of 0.0, 0.1, 10.0, 180.0, 359.9 and 360.0, of 0.2777777777777778, which is 1000000 milliarcseconds, and of a NaN
abbrev north : ℕ
north = 0

abbrev east : ℕ
east = 0x3fb999999999999a

abbrev away : ℕ
away = 0x4024000000000000

abbrev south : ℕ
south = 0x4066800000000000

abbrev west : ℕ
west = 0x40767e6666666666

abbrev turn : ℕ
turn = 0x4076800000000000

abbrev limit : ℕ
limit = 0x3fd1c71c71c71c72

abbrev nan_bits : ℕ
nan_bits = 0x7ff8000000000000

pub mean_heading_varies : Varies (mean_heading_rule (east ∷ [])) (mean_heading_rule (south ∷ []))
unfolding computed
mean_heading_varies = record { here = refl; there = refl; apart = apart (of_answer of_mean) refl }

-- ---- the mean

-- 359.9 and 0.1 give 180.0
pub raw_mean_excluded : answered (raw_mean (west ∷ east ∷ [])) ≢ with heading_in (mean_heading_rule (west ∷ east ∷ []))
unfolding computed
raw_mean_excluded = apart (of_answer of_deg) refl

-- their mean is north, in either order
pub across_north : with heading_in (mean_heading_rule (west ∷ east ∷ [])) ≡ answered (deg zero)
unfolding computed
across_north = refl

pub across_north_turned : with heading_in (mean_heading_rule (east ∷ west ∷ [])) ≡ answered (deg zero)
unfolding computed
across_north_turned = refl

pub aside_in_the_count_excluded :
    answered (aside_in_the_count (heading_of north) (north ∷ east ∷ south ∷ [])) ≢ with heading_in (mean_heading_rule (north ∷ east ∷ south ∷ []))
unfolding computed
aside_in_the_count_excluded = apart (of_answer of_deg) refl

-- a sum of −2 over two
pub fold_left_out_excluded : fold_left_out (heading_of north) (negsuc 1) 2 ≢ mean_of (heading_of north) (negsuc 1) 2
unfolding computed
fold_left_out_excluded = apart of_deg refl

-- the same from the double under 1/3600000: less than the last place of 360.0 is left below zero
abbrev just_east : Deg
just_east = heading_of 0x3e92a42f961f79b8

pub whole_turn_kept_excluded : whole_turn_kept just_east (negsuc 1) 2 ≢ mean_of just_east (negsuc 1) 2
unfolding computed
whole_turn_kept_excluded = apart of_deg refl

-- ---- a residual

pub other_way_excluded : other_way (heading_of north) (heading_of east) ≢ residual_from (heading_of north) (heading_of east)
unfolding computed
other_way_excluded = apart of_residual refl

pub west_not_taken_back_excluded : west_not_taken_back (heading_of north) (heading_of west) ≢ residual_from (heading_of north) (heading_of west)
unfolding computed
west_not_taken_back_excluded = apart of_residual refl

-- ---- the reference

pub aside_at_the_limit_excluded : aside_at_the_limit (heading_of north) limit ≢ vote (heading_of north) limit
unfolding computed
aside_at_the_limit_excluded = apart of_number refl

pub first_always_excluded : first_always (south ∷ north ∷ east ∷ []) ≢ mean_heading_rule (south ∷ north ∷ east ∷ [])
unfolding computed
first_always_excluded = apart (of_answer of_mean) refl

pub mean_where_none_agree_excluded : mean_where_none_agree (north ∷ away ∷ south ∷ []) ≢ mean_heading_rule (north ∷ away ∷ south ∷ [])
unfolding computed
mean_where_none_agree_excluded = apart (of_answer of_mean) refl

pub half_of_them_enough_excluded : half_of_them_enough (north ∷ south ∷ []) ≢ mean_heading_rule (north ∷ south ∷ [])
unfolding computed
half_of_them_enough_excluded = apart (of_answer of_mean) refl

-- ---- the spread

-- of 1 and −1, and of 1 and 1
pub spread_over_all_excluded : spread_over_all 2 0 2 ≢ spread_of 2 0 2
unfolding spread
spread_over_all_excluded = apart of_float refl

pub spread_about_the_reference_excluded : spread_about_the_reference 2 2 2 ≢ spread_of 2 2 2
unfolding spread
spread_about_the_reference_excluded = apart of_float refl

pub error_of_one_sight_excluded : error_of_one_sight 2 0 2 ≢ mean_error 2 0 2
unfolding spread
error_of_one_sight_excluded = apart of_float refl

-- ---- refusals

pub three_before_one_excluded : three_before_one (turn ∷ nan_bits ∷ []) ≢ least_refusal bits_refusal (turn ∷ nan_bits ∷ [])
unfolding computed
three_before_one_excluded = apart of_number refl

pub whole_turn_let_in_excluded : whole_turn_let_in (heading_of turn) ≢ circle_refusal (heading_of turn)
unfolding computed
whole_turn_let_in_excluded = apart of_number refl

pub one_sight_more_excluded : one_sight_more 3001 ≢ number_refusal 3001
unfolding computed
one_sight_more_excluded = apart of_number refl

pub none_not_refused_excluded : none_not_refused [] ≢ mean_heading_rule []
unfolding computed
none_not_refused_excluded = apart (of_answer of_mean) refl
