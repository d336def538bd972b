-- What a sight came to: its star is looked up in the list by its number, the star's heading is that of `report_heading`, and the mark's
-- follows from it and from what a circle reads at both. The first refusal met, by its kind: of the star, or of the mark.
use Rattle.std.specs.Prelude.{ℕ, List, Float, Result, Ok, Err}
use Rattle.double.specs.rules.Pattern.{pattern_of}
use Rattle.quantity.specs.declared.Deg.{Deg}
use Rattle.quantity.specs.rules.Angle.{deg}
use Rattle.quantity.specs.rules.Answer.{Answer, answered, refused, Triple, triple, number}
use Rattle.edition.specs.declared.Edition.{Edition}
use Rattle.list.specs.rules.Find as find
use Rattle.list.specs.rules.Find.{find_rule}
use Rattle.heading.specs.rules.Mark.{mark_heading_rule}
use Rattle.text_fields.specs.rules.Stored.{Columns}
use Rattle.text_night.specs.rules.Sights.{Entry}
use Rattle.report_heading.specs.declared.Sight.{Sight}
use Rattle.report_heading.specs.rules.Sight.{bearings_of}
use Rattle.report_marks.specs.declared.Pad.{Pad}
use Rattle.report_marks.specs.declared.Unmarked.{Unmarked}
use Rattle.report_marks.specs.declared.Unmarked.TheVariants.{Sight as OfSight, Mark as OfMark}

-- the mark's heading; the number of the star's refusal; or that of the mark's
pub data Marked : Type 0 where
  Is : Deg → Marked
  SightRefused : ℕ → Marked
  MarkRefused : ℕ → Marked

abbrev pub shown_marked : Result Deg Unmarked → Marked
shown_marked (Ok x) = Is x
shown_marked (Err (OfSight e)) = SightRefused (number e)
shown_marked (Err (OfMark e)) = MarkRefused (number e)

abbrev pub mark_of : Answer Deg → Marked
mark_of (answered x) = Is x
mark_of (refused n) = MarkRefused n

-- by the star's bearings and the two readings
abbrev pub marked_by : Answer Triple → Deg → Deg → Marked
marked_by (answered (triple heading az alt)) star mark = mark_of (mark_heading_rule (deg heading) star mark)
marked_by (refused n) star mark = SightRefused n

abbrev pub sight_on : Pad → ℕ → Float → Sight
sight_on pad number day =
    record { number = number; day1 = pad.day1; day2 = day; long = pad.long; lat = pad.lat; utc = pad.utc }

abbrev pub marked_found : Edition → Pad → Answer find.Entry → Float → ℕ → Deg → Deg → Marked
marked_found edition pad (answered f) day number star mark = marked_by (bearings_of edition f.star (sight_on pad number day)) star mark
marked_found edition pad (refused n) day number star mark = SightRefused n

unfoldable pub marked_of : Edition → Pad → List ℕ → Float → ℕ → Deg → Deg → Marked
marked_of edition pad s day number star mark = marked_found edition pad (find_rule s number) day number star mark

-- ---- as two numbers

-- 0, or the number of its refusal
abbrev pub status_of : Marked → ℕ
status_of (Is x) = 0
status_of (SightRefused n) = n
status_of (MarkRefused n) = n

-- the bits of its heading; of a refused one its kind: 1 for the mark's, and 0 for the star's
abbrev pub bits_of : Marked → ℕ
bits_of (Is x) = pattern_of x.0
bits_of (SightRefused n) = 0
bits_of (MarkRefused n) = 1

-- what is stored of each sight
abbrev pub columns : Edition → Pad → List ℕ → Columns Entry
columns edition pad s =
    record {
      line = λ (e : Entry). e.line;
      star = λ (e : Entry). e.number;
      first = λ (e : Entry). status_of (marked_of edition pad s e.day e.number e.star e.mark);
      second = λ (e : Entry). bits_of (marked_of edition pad s e.day e.number e.star e.mark);
    }
