-- Wrong variants of what a sight gives for a mark.
use Rattle.std.specs.Prelude.{ℕ}
use Rattle.quantity.specs.declared.Deg.{Deg}
use Rattle.quantity.specs.notions.Code.{of_deg}
use Rattle.quantity.specs.rules.Angle.{deg}
use Rattle.quantity.specs.rules.Answer.{Answer, answered, refused, Triple, triple}
use Rattle.heading.specs.rules.Mark.{mark_heading_rule}
use Rattle.report_marks.specs.rules.Marked.{Marked, Is, SightRefused, MarkRefused, mark_of, marked_by}

-- a heading by its bits
abbrev pub of_marked : Marked → ℕ
of_marked (Is x) = of_deg x
of_marked (SightRefused n) = 0
of_marked (MarkRefused n) = 0

-- the circle read at the mark first
abbrev pub readings_exchanged : Answer Triple → Deg → Deg → Marked
readings_exchanged bearings star mark = marked_by bearings mark star

-- the mark's refusal for the star's
abbrev pub kinds_confused : Answer Triple → Deg → Deg → Marked
kinds_confused (answered (triple heading az alt)) star mark = mark_of (mark_heading_rule (deg heading) star mark)
kinds_confused (refused n) star mark = MarkRefused n
