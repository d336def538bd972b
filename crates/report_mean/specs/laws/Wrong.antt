-- Wrong variants are excluded: each differs from the rule at the input stated.
use Rattle.std.specs.Prelude.{ℕ, refl, false, List, [], ◌∷◌, pos, ◌≢◌}
use Rattle.double.specs.rules.Operations.{zero, one}
use Rattle.double.specs.laws.Apart.{apart}
use Rattle.quantity.specs.rules.Angle.{deg}
use Rattle.edition.specs.declared.Edition.TheVariants.{Crate}
use Rattle.residual_sheet.specs.declared.Sheet.{Sheet}
use Rattle.text_number.specs.notions.Code.{of_text}
use Rattle.report_marks.specs.declared.Pad.{Pad}
use Rattle.report_mean.specs.rules.Refused.{refusal_text, refused_text, first_refused}
use Rattle.report_mean.specs.rules.Text.{meant_text, no_mean_text, sights_text}
use Rattle.report_mean.specs.notions.Computed.{computed}
use Rattle.report_mean.specs.notions.Wrong.{kinds_confused, sight_unsaid, last_refused, first_for_reference, sights_unsaid, refused_taken_in}

-- ---- a refused sight

pub kinds_confused_excluded : kinds_confused 3 1 ≢ refusal_text 3 1
unfolding computed
kinds_confused_excluded = apart of_text refl

pub sight_unsaid_excluded : sight_unsaid 7 9 3 0 ≢ refused_text 7 9 3 0
unfolding computed
sight_unsaid_excluded = apart of_text refl

-- a sight that is not refused, and two that are
abbrev three : List ℕ
three = 0 ∷ 3 ∷ 10 ∷ []

pub last_refused_excluded : last_refused three ≢ first_refused three
unfolding computed
last_refused_excluded = apart (λ (n : ℕ). n) refl

-- ---- the mean

-- from 1 and 1
abbrev pad : Pad
pad = record { day1 = zero; long = deg one; lat = deg one; utc = false }

abbrev sheet : Sheet
sheet = record { count = pos 2; sum = pos 0; squares = pos 0; largest = pos 0; place = pos 1; aside = pos 1 }

-- three sights, at 1.0 degree, and at 0.0 twice
abbrev lines : List ℕ
lines = 7 ∷ 8 ∷ 9 ∷ []

abbrev headings : List ℕ
headings = 0x3ff0000000000000 ∷ 0 ∷ 0 ∷ []

pub first_for_reference_excluded : first_for_reference Crate pad (deg zero) sheet lines lines headings ≢ meant_text Crate pad (deg zero) sheet lines lines headings
unfolding computed
first_for_reference_excluded = apart of_text refl

pub sights_unsaid_excluded : sights_unsaid 20 lines lines headings ≢ no_mean_text 20 lines lines headings
unfolding computed
sights_unsaid_excluded = apart of_text refl

-- the star is not on the list
pub refused_taken_in_excluded : refused_taken_in Crate pad (7 ∷ []) (9 ∷ []) (10 ∷ []) (0 ∷ []) ≢ sights_text Crate pad (7 ∷ []) (9 ∷ []) (10 ∷ []) (0 ∷ [])
unfolding computed
refused_taken_in_excluded = apart of_text refl
