-- A wrong variant of a night's report.
use Rattle.std.specs.Prelude.{ℕ, List, ℤ}
use Rattle.edition.specs.declared.Edition.{Edition}
use Rattle.text_night.specs.rules.Sights.{entries_of}
use Rattle.report_marks.specs.declared.Pad.{Pad}
use Rattle.report_night.specs.rules.Report.{Report, says, unclear_line, night_text}

-- which of its cases a report is
abbrev pub of_report : Report → ℕ
of_report (says t) = 0
of_report (unclear_line l) = 1

-- the sights before a line that cannot be read
abbrev pub unclear_left_out : Edition → Pad → List ℕ → List ℕ → ℤ → Report
unclear_left_out edition pad s text dut1 = says (night_text edition pad s (entries_of dut1 text))
