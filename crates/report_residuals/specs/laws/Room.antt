-- Every text has room in the bytes that are named for it.
use Rattle.std.specs.Prelude.{ℕ, ◌≤◌, Bool, true, false, cond, ◌≡◌, refl, List, map, eqb, ltb, Float, length, Err}
use Rattle.std.proofs.Common.{arith, ltb-false}
use Rattle.std.proofs.lemmas.List.{length-map}
use Rattle.quantity.specs.rules.Answer.{Answer, answered, refused}
use Rattle.edition.specs.declared.Edition.{Edition}
use Rattle.list.specs.rules.Stars.{most_stars}
use Rattle.star_store.specs.rules.Stored.{store_refusal}
use Rattle.residual_sheet.specs.declared.Sheet.{Sheet}
use Rattle.residual_sheet.specs.rules.Residuals.{TwoSheets, two, residuals_rule}
use Rattle.text_fields.specs.declared.Stopped.TheVariants as stopped
use Rattle.text_fields.specs.rules.Walk.{Ending, all_read, unclear_in}
use Rattle.text_fields.specs.rules.Stored.{sights_with, stored_rule}
use Rattle.text_measured.specs.rules.Sights.{Entry, entries_of, ending_of}
use Rattle.text_residuals.specs.laws.Room.{figures_short}
use Rattle.text_sights.specs.laws.Room.{sights_short, lefts_short, people_short}
use Rattle.report_residuals.specs.declared.Style.{Style}
use Rattle.report_residuals.specs.declared.Style.TheVariants.{People, Figures, Sights, Left}
use Rattle.report_residuals.specs.rules.Text.{Report, says, list_refused, unclear_line, too_many, sheet_refused}
use Rattle.report_residuals.specs.rules.Text.{style_text, sheets_say, sheets_report}
use Rattle.report_residuals.specs.rules.Report.{night_report, sights_report, report_of, room}

-- a report's text has so many bytes at most
abbrev pub Short : ℕ → Report → Type 0
Short k (says t) = length t ≤ k
Short k (list_refused n) = Unit {0}
Short k (unclear_line l) = Unit {0}
Short k too_many = Unit {0}
Short k (sheet_refused n) = Unit {0}

module _ (line star status asc dec measuredAsc measuredDec : List ℕ) (few : length line ≤ most_stars) where
  style_short : (style : Style) (a d : Sheet) → length (style_text style a d line star status asc dec measuredAsc measuredDec) ≤ room
  unfolding style_text
  style_short People a d = omega (arith, people_short line star status asc dec measuredAsc measuredDec a d, few)
  style_short Figures a d = omega (arith, figures_short a d)
  style_short Sights a d = omega (arith, sights_short line star status asc dec measuredAsc measuredDec, few)
  style_short Left a d = omega (arith, lefts_short line star status asc dec measuredAsc measuredDec, few)

  sheets_short : (style : Style) → Short room (sheets_report style line star status asc dec measuredAsc measuredDec)
  unfolding sheets_report
  sheets_short style = by_case (residuals_rule status asc dec measuredAsc measuredDec)
    where
      by_case : (r : Answer TwoSheets) → Short room (sheets_say style r line star status asc dec measuredAsc measuredDec)
      by_case (answered (two a d)) = style_short style a d
      by_case (refused n) = tt

pub has_room_lem : (style : Style) (edition : Edition) (s : List ℕ) (day1 day2 : Float) (text : List ℕ) → Short room (report_of style edition s day1 day2 text)
unfolding report_of stored_rule night_report
has_room_lem style edition s day1 day2 text = by_case (eqb (store_refusal s day1 day2 most_stars most_stars most_stars) 0) (ltb most_stars (length (entries_of text))) (ending_of text) refl
  where
    by_case : (t u : Bool) (e : Ending) → ltb most_stars (length (entries_of text)) ≡ u
        → Short room (cond t (sights_report (cond u (Err stopped.Full) (sights_with (length (entries_of text)) e)) (night_report style edition s day1 day2 (entries_of text))) (list_refused (store_refusal s day1 day2 most_stars most_stars most_stars)))
    by_case false u e h = tt
    by_case true true e h = tt
    by_case true false (unclear_in l) h = tt
    by_case true false all_read h =
        sheets_short (map (λ (e : Entry). e.line) (entries_of text)) _ _ _ _ _ _
        (omega (arith, length-map (entries_of text) (λ (e : Entry). e.line), ltb-false most_stars (length (entries_of text)) h)) style
