-- The mean of a night's headings of one mark, with the sheet of their residuals from the reference, or a refusal.
use Rattle.std.specs.Prelude.{ℕ, cond, List, eqb, leb, ltb, ℤ, pos, Float, length, get_or, Result, Ok, Err}
use Rattle.std.specs.Float.{binary64}
use Rattle.std.specs.Float.Ieee.{of_int}
use Rattle.double.specs.rules.Operations.{◌⊕◌, ◌⊘◌}
use Rattle.quantity.specs.declared.Deg.{Deg}
use Rattle.quantity.specs.declared.Refusal.{Refusal}
use Rattle.quantity.specs.rules.Angle.{deg}
use Rattle.quantity.specs.rules.Answer.{Answer, answered, refused, number, unless}
use Rattle.units.specs.rules.Degrees.{milliarcseconds_of_degree}
use Rattle.helpers.specs.rules.Circle.{on_circle, circle_refusal}
use Rattle.lent.specs.rules.Rows.{upto}
use Rattle.list.specs.rules.Stars.{most_stars}
use Rattle.residual_sheet.specs.declared.Sheet.{Sheet}
use Rattle.residual_sheet.specs.rules.Entry.{Entry, entry_of}
use Rattle.residual_sheet.specs.rules.Sheet.{Figures, figures_of, sheet_of}
use Rattle.residual_sheet.specs.rules.Residuals.{least_refusal}
use Rattle.heading_mean.specs.rules.Residual.{residual_from}
use Rattle.heading_mean.specs.rules.Reference.{heading_of, reference_place}

-- ---- refusals

-- of one heading
abbrev pub bits_refusal : ℕ → ℕ
bits_refusal b = circle_refusal (heading_of b)

-- of a set: 8 for none, or for more than a list has stars
unfoldable pub number_refusal : ℕ → ℕ
number_refusal n = cond (eqb n 0) 8 (cond (leb n most_stars) 0 8)

-- then 1, then 3, over all of them
unfoldable pub headings_refusal : List ℕ → ℕ
headings_refusal headings = cond (eqb (number_refusal (length headings)) 0) (least_refusal bits_refusal headings) (number_refusal (length headings))

-- ---- the sheet

-- the residual of each from the reference, taken in or set aside
unfoldable pub entry_from : Deg → List ℕ → ℕ → Entry
entry_from reference headings i = entry_of 0 (residual_from reference (heading_of (get_or headings i 0)))

abbrev pub entries_from : Deg → List ℕ → List Entry
entries_from reference headings = upto (length headings) (entry_from reference headings)

abbrev pub figures_from : Deg → List ℕ → Figures
figures_from reference headings = figures_of (entries_from reference headings)

-- ---- the mean

-- sum and count as doubles
abbrev pub mean_residual : ℤ → ℕ → Float
mean_residual sum count = of_int binary64 sum ⊘ of_int binary64 (pos count)

-- `limit_to_360`(reference + (sum/count)/3600000.0), a whole turn being 0
unfoldable pub mean_of : Deg → ℤ → ℕ → Deg
mean_of reference sum count = on_circle (deg (reference.0 ⊕ (mean_residual sum count ⊘ milliarcseconds_of_degree)))

-- ---- both, or a refusal

pub data MeanAndSheet : Type 0 where
  mean : Deg → Sheet → MeanAndSheet

abbrev pub shown_mean : Result (Deg × Sheet) Refusal → Answer MeanAndSheet
shown_mean (Ok (x, s)) = answered (mean x s)
shown_mean (Err n) = refused (number n)

unfoldable pub mean_from : Deg → List ℕ → MeanAndSheet
mean_from reference headings =
    let f = figures_from reference headings in
    mean (mean_of reference f.sum f.count) (sheet_of f)

-- 20 where no sight is a reference
unfoldable pub mean_in : List ℕ → Answer MeanAndSheet
mean_in headings =
    cond (ltb (reference_place headings) (length headings))
    (answered (mean_from (heading_of (get_or headings (reference_place headings) 0)) headings))
    (refused 20)

unfoldable pub mean_heading_rule : List ℕ → Answer MeanAndSheet
mean_heading_rule headings = unless (headings_refusal headings) (mean_in headings)
