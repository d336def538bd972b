-- Wrong variants of a night's report.
use Rattle.std.specs.Prelude.{ℕ, List, Float}
use Rattle.quantity.specs.rules.Answer.{Answer, Pair}
use Rattle.edition.specs.declared.Edition.{Edition}
use Rattle.list.specs.rules.Stars.{most_stars, nth}
use Rattle.batch.specs.rules.Star.{star_rule}
use Rattle.text_measured.specs.rules.Sights.{entries_of, sights_rule}
use Rattle.report_residuals.specs.declared.Style.{Style}
use Rattle.report_residuals.specs.rules.Text.{Report, says, list_refused, unclear_line, too_many, sheet_refused}
use Rattle.report_residuals.specs.rules.Report.{night_report, sights_report}

-- which of its cases a report is
abbrev pub of_report : Report → ℕ
of_report (says t) = 0
of_report (list_refused n) = 1
of_report (unclear_line l) = 2
of_report too_many = 3
of_report (sheet_refused n) = 4

-- the sight beside the star at its own place in the list, whatever its number
abbrev pub star_by_place : Edition → List ℕ → Float → Float → ℕ → Answer Pair
star_by_place edition s day1 day2 i = star_rule edition (nth s i) day1 day2

-- a line that cannot be read passed over
abbrev pub unclear_passed_over : Style → Edition → List ℕ → Float → Float → List ℕ → Report
unclear_passed_over style edition s day1 day2 text = night_report style edition s day1 day2 (entries_of text)

-- the text before the list
abbrev pub text_before_list : Style → Edition → List ℕ → Float → Float → List ℕ → Report
text_before_list style edition s day1 day2 text = sights_report (sights_rule most_stars text) (night_report style edition s day1 day2 (entries_of text))
