-- A night: the sights of the text, each by its star of the list, and their text; or the line that cannot be read.
use Rattle.std.specs.Prelude.{ℕ, ◌+◌, ◌*◌, ◌≡◌, List, map, ℤ, Result, Ok, Err}
use Rattle.edition.specs.declared.Edition.{Edition}
use Rattle.lent.specs.rules.Writing.{written, offset_after}
use Rattle.list.specs.rules.Stars.{most_stars}
use Rattle.text_number.specs.rules.Bytes.{ascii}
use Rattle.text_fields.specs.declared.Stopped.{Stopped}
use Rattle.text_fields.specs.declared.Stopped.TheVariants as stopped
use Rattle.text_fields.specs.declared.UnclearAt.{UnclearAt}
use Rattle.text_fields.specs.rules.Stored.{stored_rule}
use Rattle.text_night.specs.rules.Sight.{sight_rule}
use Rattle.text_night.specs.rules.Sights.{Entry, entry_of, entries_of}
use Rattle.report_marks.specs.declared.Pad.{Pad}
use Rattle.report_marks.specs.rules.Marked.{columns}
use Rattle.report_mean.specs.rules.Text.{lent_text}

-- a text, or the line that cannot be read
pub data Report : Type 0 where
  says : List ℕ → Report
  unclear_line : ℕ → Report

-- as the code has it
abbrev pub unclear : ℕ → UnclearAt
unclear l = record { 0 = l }

-- what a call answers, and leaves in the slice: a text from its start on, or all as it was
abbrev pub told_of : List ℕ → Report → Result ℕ UnclearAt
told_of old (says t) = Ok (offset_after old 0 t)
told_of old (unclear_line l) = Err (unclear l)

abbrev pub slice_of : List ℕ → Report → List ℕ
slice_of old (says t) = written old 0 t
slice_of old (unclear_line l) = old

-- the bytes of a text, none where there is none
abbrev pub length_of : Result ℕ UnclearAt → ℕ
length_of (Ok k) = k
length_of (Err l) = 0

pub record Reported (old : List ℕ) (p : Report) (r : Result ℕ UnclearAt) (new : List ℕ) : Type 0 where
  pub answer : r ≡ told_of old p
  pub slice : new ≡ slice_of old p

-- of sights that all have a place
unfoldable pub night_text : Edition → Pad → List ℕ → List Entry → List ℕ
night_text edition pad s es =
    lent_text edition pad (map (columns edition pad s).line es) (map (columns edition pad s).star es)
    (map (columns edition pad s).first es) (map (columns edition pad s).second es)

-- of what reading the text gave: its sights, a line that cannot be read, or more sights than a list has stars
abbrev pub sights_report : Result ℕ Stopped → List ℕ → Report
sights_report (Ok n) night = says night
sights_report (Err (stopped.Unclear line)) night = unclear_line line
sights_report (Err stopped.Full) night = says (ascii "refused 8: more than 3000 sights\n")

unfoldable pub report_of : Edition → Pad → List ℕ → List ℕ → ℤ → Report
report_of edition pad s text dut1 =
    sights_report (stored_rule (sight_rule dut1) entry_of most_stars text) (night_text edition pad s (entries_of dut1 text))

-- bytes of the longest text, at most: so many a sight, and those of the place, the edition, the mean and what stays open
abbrev pub room : ℕ
room = 420 + 197 * most_stars
