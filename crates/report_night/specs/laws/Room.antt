-- Every text has room in the bytes that are named for it.
use Rattle.std.specs.Prelude.{ℕ, ◌≤◌, ◌≡◌, Bool, cond, List, map, ℤ, length, Err}
use Rattle.std.proofs.Math.Path.{refl}
use Rattle.std.proofs.Math.Bool.{true, false}
use native.Mathlib.Omega.{arith}
use Rattle.std.proofs.Math.Dec.{ltb}
use Rattle.std.proofs.Math.ListN.{length-map}
use Rattle.std.proofs.Common.{ltb-false}
use Rattle.edition.specs.declared.Edition.{Edition}
use Rattle.list.specs.rules.Stars.{most_stars}
use Rattle.text_fields.specs.declared.Stopped.TheVariants as stopped
use Rattle.text_fields.specs.rules.Walk.{Ending, all_read, unclear_in}
use Rattle.text_fields.specs.rules.Stored.{sights_with, stored_rule}
use Rattle.text_night.specs.rules.Sights.{Entry, entries_of, ending_of}
use Rattle.report_marks.specs.declared.Pad.{Pad}
use Rattle.report_marks.specs.rules.Marked.{columns}
use Rattle.report_mean.specs.laws.Room.{lent_short}
use Rattle.report_night.specs.rules.Report.{Report, says, unclear_line, night_text, sights_report, report_of, room}

-- a report's text has so many bytes at most
abbrev pub Short : ℕ → Report → Type 0
Short k (says t) = length t ≤ k
Short k (unclear_line l) = Unit {0}

module _ (edition : Edition) (pad : Pad) (s text : List ℕ) (dut1 : ℤ) where
  abbrev es : List Entry
  es = entries_of dut1 text

  night_short : length es ≤ most_stars → length (night_text edition pad s es) ≤ room
  unfolding night_text
  night_short few =
      omega (
        arith,
        few,
        length-map es (columns edition pad s).second,
        lent_short edition pad (map (columns edition pad s).line es) (map (columns edition pad s).star es) (map (columns edition pad s).first es) (map (columns edition pad s).second es),
      )

  pub has_room : Short room (report_of edition pad s text dut1)
  unfolding report_of stored_rule
  has_room = by_case (ltb most_stars (length es)) (ending_of dut1 text) refl
    where
      by_case : (u : Bool) (e : Ending) → ltb most_stars (length es) ≡ u
          → Short room (sights_report (cond u (Err stopped.Full) (sights_with (length es) e)) (night_text edition pad s es))
      by_case true e h = omega arith
      by_case false (unclear_in l) h = tt
      by_case false all_read h = night_short (ltb-false most_stars (length es) h)
