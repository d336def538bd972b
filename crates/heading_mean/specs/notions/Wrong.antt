-- Wrong variants of the mean of headings.
use Rattle.std.specs.Prelude.{ℕ, suc, ◌+◌, ◌-◌, ◌*◌, max, cond, List, [], ◌∷◌, eqb, leb, ltb, ℤ, Float, length, get_or}
use Rattle.std.specs.Float.Ieee.{le}
use Rattle.double.specs.rules.Operations.{zero, ◌⊕◌, ◌⊖◌, ◌⊘◌}
use Rattle.double.specs.rules.Sign.{is_finite}
use Rattle.double.specs.rules.Whole.{from_whole}
use Rattle.quantity.specs.declared.Deg.{Deg}
use Rattle.quantity.specs.rules.Angle.{deg}
use Rattle.quantity.specs.rules.Answer.{Answer, answered, refused}
use Rattle.quantity.specs.notions.Code.{of_deg}
use Rattle.units.specs.rules.Degrees.{milliarcseconds, milliarcseconds_of_degree}
use Rattle.helpers.specs.rules.Angle.{turn_in_degrees, within360}
use Rattle.list.specs.rules.Stars.{most_stars}
use Rattle.residual_sheet.specs.declared.Residual.{Residual}
use Rattle.residual_sheet.specs.rules.Residual.{rounded, farthest_taken}
use Rattle.heading_mean.specs.rules.Residual.{residual_from}
use Rattle.heading_mean.specs.rules.Reference.{heading_of, agreeing, reference_place}
use Rattle.heading_mean.specs.rules.Mean.{bits_refusal, figures_from, mean_residual, mean_of, MeanAndSheet, mean, mean_from, mean_in}
use Rattle.heading_mean.specs.rules.Spread.{root_over, scatter, spread_of}

-- a mean as one number
abbrev pub of_mean : MeanAndSheet → ℕ
of_mean (mean x s) = of_deg x

abbrev pub heading_in : MeanAndSheet → Deg
heading_in (mean x s) = x

-- ---- the mean

abbrev raw_sum : List ℕ → Float
raw_sum [] = zero
raw_sum (b ∷ bs) = (heading_of b).0 ⊕ raw_sum bs

-- of raw numbers
abbrev pub raw_mean : List ℕ → Deg
raw_mean headings = deg (raw_sum headings ⊘ from_whole (length headings))

-- over all sights, those set aside too
abbrev pub aside_in_the_count : Deg → List ℕ → Deg
aside_in_the_count reference headings = mean_of reference (figures_from reference headings).sum (length headings)

abbrev pub fold_left_out : Deg → ℤ → ℕ → Deg
fold_left_out reference sum count = deg (reference.0 ⊕ (mean_residual sum count ⊘ milliarcseconds_of_degree))

abbrev pub whole_turn_kept : Deg → ℤ → ℕ → Deg
whole_turn_kept reference sum count = within360 (fold_left_out reference sum count)

-- ---- a residual

abbrev pub other_way : Deg → Deg → Residual
other_way reference heading = residual_from heading reference

abbrev pub west_not_taken_back : Deg → Deg → Residual
west_not_taken_back reference heading = rounded (milliarcseconds (within360 (deg (heading.0 ⊖ reference.0))))

-- ---- the reference

-- at the limit itself
abbrev pub aside_at_the_limit : Deg → ℕ → ℕ
aside_at_the_limit reference b = cond (leb farthest_taken (residual_from reference (heading_of b)).size) 0 1

abbrev from : ℕ → List ℕ → Answer MeanAndSheet
from i headings = answered (mean_from (heading_of (get_or headings i 0)) headings)

abbrev pub first_always : List ℕ → Answer MeanAndSheet
first_always headings = from 0 headings

abbrev pub mean_where_none_agree : List ℕ → Answer MeanAndSheet
mean_where_none_agree headings = cond (ltb (reference_place headings) (length headings)) (from (reference_place headings) headings) (from 0 headings)

-- half of all, where more than that is asked
abbrev first_of_half : List ℕ → List ℕ → ℕ
first_of_half all [] = 0
first_of_half all (b ∷ bs) = cond (leb (length all) (2 * agreeing (heading_of b) all)) 0 (suc (first_of_half all bs))

abbrev pub half_of_them_enough : List ℕ → Answer MeanAndSheet
half_of_them_enough headings =
    let i = first_of_half headings headings in
    cond (ltb i (length headings)) (from i headings) (refused 20)

-- ---- the spread

-- over n, where n − 1 are left by the mean
abbrev pub spread_over_all : ℕ → ℕ → ℕ → Float
spread_over_all n s q = root_over (scatter n s q) (n * n)

-- about the reference, not about the mean
abbrev pub spread_about_the_reference : ℕ → ℕ → ℕ → Float
spread_about_the_reference n s q = root_over q (n - 1)

abbrev pub error_of_one_sight : ℕ → ℕ → ℕ → Float
error_of_one_sight n s q = spread_of n s q

-- ---- refusals

abbrev pub three_before_one : List ℕ → ℕ
three_before_one [] = 0
three_before_one (b ∷ bs) = max (bits_refusal b) (three_before_one bs)

abbrev pub whole_turn_let_in : Deg → ℕ
whole_turn_let_in x = cond (is_finite x.0) (cond (le zero x.0) (cond (le x.0 turn_in_degrees) 0 3) 3) 1

abbrev pub one_sight_more : ℕ → ℕ
one_sight_more n = cond (eqb n 0) 8 (cond (leb n (most_stars + 1)) 0 8)

abbrev pub none_not_refused : List ℕ → Answer MeanAndSheet
none_not_refused headings = mean_in headings
