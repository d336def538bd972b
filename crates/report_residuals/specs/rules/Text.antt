-- The text of a night's sights, which are lent by their lines, stars, statuses, computed and measured angles, in a style.
use Rattle.std.specs.Prelude.{ℕ, ◌≡◌, List, Result, Ok, Err}
use Rattle.quantity.specs.rules.Answer.{Answer, answered, refused, number}
use Rattle.lent.specs.rules.Writing.{written, offset_after}
use Rattle.residual_sheet.specs.declared.Sheet.{Sheet}
use Rattle.residual_sheet.specs.rules.Residuals.{TwoSheets, two, residuals_rule}
use Rattle.text_residuals.specs.rules.Figures.{figures_text}
use Rattle.text_sights.specs.rules.Sights.{sights_text, lefts_text, people_text}
use Rattle.report_residuals.specs.declared.Style.{Style}
use Rattle.report_residuals.specs.declared.Style.TheVariants.{People, Figures, Sights, Left}
use Rattle.report_residuals.specs.declared.Untold.{Untold}
use Rattle.report_residuals.specs.declared.Untold.TheVariants as untold

-- a text, or why there is none
pub data Report : Type 0 where
  says : List ℕ → Report
  list_refused : ℕ → Report
  unclear_line : ℕ → Report
  too_many : Report
  sheet_refused : ℕ → Report

-- how long the text is, or why there is none, each refusal by its number
pub data Told : Type 0 where
  Text : ℕ → Told
  ListRefused : ℕ → Told
  Unclear : ℕ → Told
  TooMany : Told
  SheetRefused : ℕ → Told

abbrev pub shown_told : Result ℕ Untold → Told
shown_told (Ok k) = Text k
shown_told (Err (untold.List e)) = ListRefused (number e)
shown_told (Err (untold.Unclear l)) = Unclear l
shown_told (Err untold.TooMany) = TooMany
shown_told (Err (untold.Sheet e)) = SheetRefused (number e)

-- what a call answers, and leaves in the slice: a text from its start on, or all as it was
abbrev pub told_of : List ℕ → Report → Told
told_of old (says t) = Text (offset_after old 0 t)
told_of old (list_refused n) = ListRefused n
told_of old (unclear_line l) = Unclear l
told_of old too_many = TooMany
told_of old (sheet_refused n) = SheetRefused n

abbrev pub slice_of : List ℕ → Report → List ℕ
slice_of old (says t) = written old 0 t
slice_of old (list_refused n) = old
slice_of old (unclear_line l) = old
slice_of old too_many = old
slice_of old (sheet_refused n) = old

-- the bytes of a text, none where there is none
abbrev pub length_of : Told → ℕ
length_of (Text k) = k
length_of (ListRefused n) = 0
length_of (Unclear l) = 0
length_of TooMany = 0
length_of (SheetRefused n) = 0

pub record Reported (old : List ℕ) (p : Report) (r : Result ℕ Untold) (new : List ℕ) : Type 0 where
  pub answer : shown_told r ≡ told_of old p
  pub slice : new ≡ slice_of old p

unfoldable pub style_text : Style → Sheet → Sheet → List ℕ → List ℕ → List ℕ → List ℕ → List ℕ → List ℕ → List ℕ → List ℕ
style_text People a d line star status asc dec measuredAsc measuredDec = people_text a d line star status
style_text Figures a d line star status asc dec measuredAsc measuredDec = figures_text a d
style_text Sights a d line star status asc dec measuredAsc measuredDec = sights_text line star status asc dec measuredAsc measuredDec
style_text Left a d line star status asc dec measuredAsc measuredDec = lefts_text line star status

-- with their sheets, which may be refused
abbrev pub sheets_say : Style → Answer TwoSheets → List ℕ → List ℕ → List ℕ → List ℕ → List ℕ → List ℕ → List ℕ → Report
sheets_say style (answered (two a d)) line star status asc dec measuredAsc measuredDec =
    says (style_text style a d line star status asc dec measuredAsc measuredDec)
sheets_say style (refused n) line star status asc dec measuredAsc measuredDec = sheet_refused n

unfoldable pub sheets_report : Style → List ℕ → List ℕ → List ℕ → List ℕ → List ℕ → List ℕ → List ℕ → Report
sheets_report style line star status asc dec measuredAsc measuredDec =
    sheets_say style (residuals_rule status asc dec measuredAsc measuredDec) line star status asc dec measuredAsc measuredDec
