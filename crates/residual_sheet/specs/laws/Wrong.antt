-- Wrong variants are excluded: each differs from the rule at the input stated. The rule varies: neither refusing everything nor a constant
-- meets it.
use Rattle.std.specs.Prelude.{ℕ, refl, false, true, [], ◌∷◌, nat_abs, ◌≢◌}
use Rattle.double.specs.notions.Code.{of_number, of_flag}
use Rattle.double.specs.laws.Apart.{apart}
use Rattle.quantity.specs.rules.Angle.{rad}
use Rattle.quantity.specs.rules.Answer.{Answer}
use Rattle.quantity.specs.notions.Varies.{Varies}
use Rattle.quantity.specs.notions.Code.{of_answer}
use Rattle.double.specs.rules.Operations.{bits}
use Rattle.residual_sheet.specs.declared.Residual.{Residual}
use Rattle.residual_sheet.specs.rules.Residual.{in_milliarcseconds, residual_of, is_aside}
use Rattle.residual_sheet.specs.rules.Entry.{other, aside, taken, entry_of}
use Rattle.residual_sheet.specs.rules.Sheet.{figures_of, merged_place}
use Rattle.residual_sheet.specs.rules.Residuals.{lengths_refusal, floats_refusal, TwoSheets, two, residuals_rule}
use Rattle.residual_sheet.specs.notions.Computed.{computed}
use Rattle.residual_sheet.specs.notions.Wrong.{refused_star_taken_in, aside_of_both_for_one, of_entry, aside_counted_in, last_of_the_largest}
use Rattle.residual_sheet.specs.notions.Wrong.{place_among_taken, no_place_where_all_are_zero, squares_rounded, square_of_a_float, first_sheet_wins}
use Rattle.residual_sheet.specs.notions.Wrong.{places_not_moved_on, three_before_one, status_zero_alone_tested, one_entry_more, of_residual, halves_to_even}
use Rattle.residual_sheet.specs.notions.Wrong.{halves_up, sign_lost, other_way, fold_left_out, half_a_turn_not_taken_back, fold_on_the_declination}
use Rattle.residual_sheet.specs.notions.Wrong.{aside_before_rounding, aside_at_the_limit}
use Rattle.std.specs.Float.Ieee.{neg}
use Rattle.quantity.specs.declared.Rad.{Rad}
use Rattle.quantity.specs.notions.Stated.{r0, r1}
use Rattle.helpers.specs.rules.Angle.{turn_in_radians}

pub residual_varies : residual_of false r1 r0 ≢ residual_of false r0 r0
unfolding computed
residual_varies = apart of_residual refl

-- ---- the nearest

-- 1.21203420277384e-08, which is 2.5 milliarcseconds
abbrev two_and_a_half : Rad
two_and_a_half = rad (bits 0x3e4a073a7eb7c211)

abbrev minus_two_and_a_half : Rad
minus_two_and_a_half = rad (neg (bits 0x3e4a073a7eb7c211))

pub halves_to_even_excluded : halves_to_even two_and_a_half ≢ in_milliarcseconds two_and_a_half
unfolding computed
halves_to_even_excluded = apart of_residual refl

pub halves_up_excluded : halves_up minus_two_and_a_half ≢ in_milliarcseconds minus_two_and_a_half
unfolding computed
halves_up_excluded = apart of_residual refl

pub sign_lost_excluded : sign_lost minus_two_and_a_half ≢ of_residual (in_milliarcseconds minus_two_and_a_half)
unfolding computed
sign_lost_excluded = apart of_number refl

-- ---- the difference

pub other_way_excluded : other_way false r1 r0 ≢ residual_of false r1 r0
unfolding computed
other_way_excluded = apart of_residual refl

-- none from 2·PI
pub fold_left_out_excluded : fold_left_out r0 (rad turn_in_radians) ≢ residual_of true r0 (rad turn_in_radians)
unfolding computed
fold_left_out_excluded = apart of_residual refl

pub half_a_turn_not_taken_back_excluded : half_a_turn_not_taken_back r0 r1 ≢ residual_of true r0 r1
unfolding computed
half_a_turn_not_taken_back_excluded = apart of_residual refl

pub fold_on_the_declination_excluded : fold_on_the_declination r0 (rad turn_in_radians) ≢ residual_of false r0 (rad turn_in_radians)
unfolding computed
fold_on_the_declination_excluded = apart of_residual refl

-- ---- what is set aside

-- 0.004848138023129563, which is 1000000.25 milliarcseconds
abbrev near_the_limit : Rad
near_the_limit = rad (bits 0x3f73dba42417e708)

pub aside_before_rounding_excluded : aside_before_rounding near_the_limit ≢ is_aside (in_milliarcseconds near_the_limit)
unfolding computed
aside_before_rounding_excluded = apart of_flag refl

pub aside_at_the_limit_excluded : aside_at_the_limit (in_milliarcseconds near_the_limit) ≢ is_aside (in_milliarcseconds near_the_limit)
unfolding computed
aside_at_the_limit_excluded = apart of_flag refl

-- 0, 7, 4097 and 1000001
abbrev none : Residual
none = record { minus = false; size = 0 }

abbrev seven : Residual
seven = record { minus = false; size = 7 }

abbrev many : Residual
many = record { minus = false; size = 4097 }

abbrev too_many : Residual
too_many = record { minus = false; size = 1000001 }

-- the bits of 0.0, of 1.21203420277384e-08, which is 2.5 milliarcseconds, of 65.0 and of a NaN
abbrev zero_bits : ℕ
zero_bits = 0

abbrev small_bits : ℕ
small_bits = 0x3e4a073a7eb7c211

abbrev far_bits : ℕ
far_bits = 0x4050400000000000

abbrev nan_bits : ℕ
nan_bits = 0x7ff8000000000000

-- ---- the whole

-- by the size of the sum in right ascension
abbrev of_sheets : TwoSheets → ℕ
of_sheets (two a d) = nat_abs a.sum

abbrev night : ℕ → Answer TwoSheets
night b = residuals_rule (0 ∷ []) (b ∷ []) (zero_bits ∷ []) (zero_bits ∷ []) (zero_bits ∷ [])

pub residuals_varies : Varies (night small_bits) (night zero_bits)
unfolding computed
residuals_varies = record { here = refl; there = refl; apart = apart (of_answer of_sheets) refl }

-- ---- an entry

pub refused_star_taken_in_excluded : refused_star_taken_in 9 seven ≢ entry_of 9 seven
refused_star_taken_in_excluded = apart of_entry refl

pub aside_of_both_for_one_excluded : aside_of_both_for_one 0 seven too_many ≢ entry_of 0 seven
aside_of_both_for_one_excluded = apart of_entry refl

-- ---- the figures

pub aside_counted_in_excluded : aside_counted_in (aside ∷ []) ≢ (figures_of (aside ∷ [])).count
unfolding computed
aside_counted_in_excluded = apart of_number refl

pub last_of_the_largest_excluded : last_of_the_largest (taken seven ∷ taken seven ∷ []) ≢ (figures_of (taken seven ∷ taken seven ∷ [])).place
unfolding computed
last_of_the_largest_excluded = apart of_number refl

pub place_among_taken_excluded : place_among_taken (other ∷ taken seven ∷ []) ≢ (figures_of (other ∷ taken seven ∷ [])).place
unfolding computed
place_among_taken_excluded = apart of_number refl

pub no_place_where_all_are_zero_excluded : no_place_where_all_are_zero (other ∷ taken none ∷ []) ≢ (figures_of (other ∷ taken none ∷ [])).place
unfolding computed
no_place_where_all_are_zero_excluded = apart of_number refl

-- 4097 · 4097 has 25 binary digits
pub squares_rounded_excluded : squares_rounded (many ∷ []) ≢ (figures_of (taken many ∷ [])).squares
unfolding computed
squares_rounded_excluded = apart of_number refl

pub square_of_a_float_excluded :
    square_of_a_float (rad (bits small_bits)) ≢ (figures_of (taken (in_milliarcseconds (rad (bits small_bits))) ∷ [])).squares
unfolding computed
square_of_a_float_excluded = apart of_number refl

-- ---- merging

pub first_sheet_wins_excluded :
    first_sheet_wins (figures_of (other ∷ taken seven ∷ [])) (figures_of (taken seven ∷ []))
    ≢ merged_place (figures_of (other ∷ taken seven ∷ [])) (figures_of (taken seven ∷ []))
unfolding computed
first_sheet_wins_excluded = apart of_number refl

pub places_not_moved_on_excluded :
    places_not_moved_on (taken none ∷ []) (taken seven ∷ []) ≢ (figures_of (taken none ∷ taken seven ∷ [])).place
unfolding computed
places_not_moved_on_excluded = apart of_number refl

-- ---- refusals

pub three_before_one_excluded : three_before_one (far_bits ∷ nan_bits ∷ []) ≢ floats_refusal (far_bits ∷ nan_bits ∷ [])
unfolding computed
three_before_one_excluded = apart of_number refl

pub status_zero_alone_tested_excluded : status_zero_alone_tested (9 ∷ []) (nan_bits ∷ []) ≢ floats_refusal (nan_bits ∷ [])
unfolding computed
status_zero_alone_tested_excluded = apart of_number refl

pub one_entry_more_excluded : one_entry_more 3001 ≢ lengths_refusal 3001 3001 3001 3001 3001
unfolding computed
one_entry_more_excluded = apart of_number refl
