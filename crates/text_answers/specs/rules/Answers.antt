-- The text of a list's answers, in a style: a head, a line for each star that is kept, and a foot; of a refused call its refusal alone.
use Rattle.std.specs.Prelude.{ℕ, ◌+◌, cond, List, [], ◌∷◌, ◌++◌, eqb, get_or}
use Rattle.double.specs.rules.Operations.{bits}
use Rattle.quantity.specs.declared.Rad.{Rad}
use Rattle.quantity.specs.rules.Angle.{rad}
use Rattle.quantity.specs.rules.Answer.{Answer, answered, refused}
use Rattle.quantity.specs.rules.Refusal.{lower}
use Rattle.edition.specs.declared.Edition.{Edition}
use Rattle.edition.specs.rules.Edition.{by_edition}
use Rattle.transit.specs.rules.Clock.{again_in}
use Rattle.transit.specs.rules.Observer.{plan_refusal, planned_of}
use Rattle.lent.specs.rules.Texts.{texts}
use Rattle.list.specs.rules.Stars.{count_of, is_kept, nth}
use Rattle.list_tally.specs.declared.Tally.{Tally}
use Rattle.list_tally.specs.rules.Status.{highest_status}
use Rattle.text_number.specs.rules.Bytes.{ascii, space, line_end}
use Rattle.text_number.specs.rules.Number.{decimal_text}
use Rattle.text_number.specs.rules.Refused.{refused_text}
use Rattle.text_line.specs.rules.Line.{line_of}
use Rattle.text_row.specs.rules.Row.{row_of}
use Rattle.text_row.specs.rules.PlanRow.{plan_row}
use Rattle.text_time.specs.rules.Line.{plan_line}
use Rattle.text_refusal.specs.rules.Refusal.{refusal_text, plan_refusal_text}
use Rattle.text_answers.specs.declared.Style.{Style}
use Rattle.text_answers.specs.declared.Style.TheVariants.{Lines, Table, Plan, PlanTable}

-- ---- what differs by the style

-- a star: its number, its status and its angles
abbrev pub star_text : Style → ℕ → ℕ → Rad → Rad → List ℕ
star_text Lines number status asc dec = line_of number status asc dec
star_text Table number status asc dec = row_of number status asc dec
star_text (Plan o) number status asc dec = plan_line number (planned_of status asc dec o) (again_in (planned_of status asc dec o))
star_text (PlanTable o) number status asc dec = plan_row number (planned_of status asc dec o) (again_in (planned_of status asc dec o))

-- each unit stands over the last digit of its part
abbrev pub heading_text : List ℕ
heading_text = ascii "      star  right ascension  declination\n             h  m  s           d  '  \"\n"

abbrev pub plan_heading_text : List ℕ
plan_heading_text = ascii "      star  rise      culmination  set\n             h  m  s   h  m  s      h  m  s\n"

abbrev pub heading_in : Style → List ℕ
heading_in Lines = []
heading_in Table = heading_text
heading_in (Plan o) = []
heading_in (PlanTable o) = plan_heading_text

-- past files go by the crate's edition, so that it stays unsaid
unfoldable pub edition_text : Edition → List ℕ
edition_text edition = by_edition edition [] (ascii "edition published" ++ (line_end ∷ []))

abbrev pub head_text : Style → Edition → List ℕ
head_text style edition = edition_text edition ++ heading_in style

-- the count of each status from 0 to the highest known
unfoldable pub count_text : ℕ → List ℕ
count_text n = space ∷ decimal_text n

abbrev pub count_at : List ℕ → ℕ → List ℕ
count_at counts k = count_text (get_or counts k 0)

unfoldable pub tally_text : Tally → List ℕ
tally_text tally = ascii "tally" ++ (texts (highest_status + 1) (count_at tally.counts) ++ (line_end ∷ []))

abbrev pub foot_text : Style → Tally → List ℕ
foot_text Lines tally = tally_text tally
foot_text Table tally = []
foot_text (Plan o) tally = []
foot_text (PlanTable o) tally = []

-- of a call that the list's reduction refused so: the least number over all arguments
abbrev pub refusal_in : Style → ℕ → ℕ
refusal_in Lines n = n
refusal_in Table n = n
refusal_in (Plan o) n = lower n (plan_refusal o)
refusal_in (PlanTable o) n = lower n (plan_refusal o)

abbrev pub refused_in : Style → ℕ → List ℕ
refused_in Lines n = refused_text n
refused_in Table n = refusal_text n
refused_in (Plan o) n = refused_text n
refused_in (PlanTable o) n = plan_refusal_text n

-- ---- the whole

-- angle i of a slice of radians, each as its bits
abbrev pub angle_at : List ℕ → ℕ → Rad
angle_at s i = rad (bits (get_or s i 0))

-- star i, whose status and angles stand in three slices; an empty place has no line
abbrev pub lent_line : Style → List ℕ → List ℕ → List ℕ → List ℕ → ℕ → List ℕ
lent_line style s status asc dec i =
    cond (is_kept (nth s i)) (star_text style (nth s i).number (get_or status i 0) (angle_at asc i) (angle_at dec i)) []

-- of a call that is not refused
unfoldable pub list_text : Style → Edition → List ℕ → List ℕ → List ℕ → List ℕ → Tally → List ℕ
list_text style edition s status asc dec tally =
    head_text style edition ++ (texts (count_of s) (lent_line style s status asc dec) ++ foot_text style tally)

-- of a list whose reduction answered its tally, or was refused
unfoldable pub answers_text : Style → Edition → List ℕ → List ℕ → List ℕ → List ℕ → Answer Tally → List ℕ
answers_text style edition s status asc dec (answered tally) =
    let stated = refusal_in style 0 in
    cond (eqb stated 0) (list_text style edition s status asc dec tally) (refused_in style stated)
answers_text style edition s status asc dec (refused n) = refused_in style (refusal_in style n)
