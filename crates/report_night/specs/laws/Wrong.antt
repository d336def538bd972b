-- A wrong variant is excluded: it differs from the rule at the input stated. The report varies.
use Rattle.std.specs.Prelude.{ℕ, refl, false, List, [], pos, ◌≢◌}
use Rattle.double.specs.rules.Operations.{zero, one}
use Rattle.double.specs.laws.Apart.{apart}
use Rattle.quantity.specs.rules.Angle.{deg}
use Rattle.edition.specs.declared.Edition.TheVariants.{Crate}
use Rattle.text_number.specs.rules.Bytes.{ascii}
use Rattle.report_marks.specs.declared.Pad.{Pad}
use Rattle.report_night.specs.rules.Report.{report_of}
use Rattle.report_night.specs.notions.Computed.{computed}
use Rattle.report_night.specs.notions.Wrong.{of_report, unclear_left_out}

-- from 1 and 1
abbrev pad : Pad
pad = record { day1 = zero; long = deg one; lat = deg one; utc = false }

-- a sight, and a line that cannot be read behind it
abbrev behind : List ℕ
behind = ascii "1 2 3 4\nx"

pub unclear_left_out_excluded : unclear_left_out Crate pad [] behind (pos 0) ≢ report_of Crate pad [] behind (pos 0)
unfolding computed
unclear_left_out_excluded = apart of_report refl

pub report_varies : report_of Crate pad [] behind (pos 0) ≢ report_of Crate pad [] [] (pos 0)
unfolding computed
report_varies = apart of_report refl
