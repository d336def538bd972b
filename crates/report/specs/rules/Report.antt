-- The text of a list that is reduced from one day to another, in a style, of its plan for a site, and of one under the rotation of two
-- days; of a refused call its refusal alone.
use Rattle.std.specs.Prelude.{ℕ, ◌+◌, ◌*◌, Bool, cond, List, [], ◌++◌, eqb, Float}
use Rattle.quantity.specs.declared.Deg.{Deg}
use Rattle.quantity.specs.rules.Angle.{rad}
use Rattle.quantity.specs.rules.Answer.{Answer, Pair, status_of}
use Rattle.edition.specs.declared.Edition.{Edition}
use Rattle.transit.specs.declared.Observer.{Observer}
use Rattle.transit.specs.rules.Observer.{observer_at}
use Rattle.sidereal.specs.rules.Apparent.{apparent_of}
use Rattle.lent.specs.rules.Texts.{texts}
use Rattle.list.specs.declared.Star.{Star}
use Rattle.list.specs.rules.Stars.{most_stars, count_of, is_kept, nth}
use Rattle.list_tally.specs.rules.Tally.{tally_of}
use Rattle.star_store.specs.rules.Star.{first_of, second_of}
use Rattle.star_store.specs.rules.Stored.{store_refusal, statuses_by}
use Rattle.batch.specs.rules.Batch.{stars_on}
use Rattle.rotation_list.specs.rules.Rotate.{rotated_on}
use Rattle.text_number.specs.rules.Bytes.{ascii}
use Rattle.text_number.specs.rules.Refused.{refused_text}
use Rattle.text_answers.specs.declared.Style.{Style}
use Rattle.text_answers.specs.declared.Style.TheVariants.{Lines, Plan, PlanTable}
use Rattle.text_answers.specs.rules.Answers.{star_text, head_text, foot_text, refusal_in, refused_in}

-- star i of the list by a rule of a star; an empty place has no line
abbrev pub line_by : Style → (Star → Answer Pair) → List ℕ → ℕ → List ℕ
line_by style rule s i =
    let a = rule (nth s i) in
    cond (is_kept (nth s i)) (star_text style (nth s i).number (status_of a) (rad (first_of a)) (rad (second_of a))) []

-- of a call that is not refused
abbrev pub text_by : Style → Edition → (Star → Answer Pair) → List ℕ → List ℕ
text_by style edition rule s = head_text style edition ++ (texts (count_of s) (line_by style rule s) ++ foot_text style (tally_of (statuses_by rule s)))

-- ---- reduced

abbrev pub star_line : Style → Edition → List ℕ → Float → Float → ℕ → List ℕ
star_line style edition s day1 day2 = line_by style (stars_on edition day1 day2) s

abbrev pub stars_text : Style → Edition → List ℕ → Float → Float → List ℕ
stars_text style edition s day1 day2 = text_by style edition (stars_on edition day1 day2) s

-- the least number over all arguments, the style's with the list's
abbrev pub report_refusal : Style → List ℕ → Float → Float → ℕ
report_refusal style s day1 day2 = refusal_in style (store_refusal s day1 day2 most_stars most_stars most_stars)

unfoldable pub report_of : Style → Edition → List ℕ → Float → Float → List ℕ
report_of style edition s day1 day2 =
    let no = report_refusal style s day1 day2 in
    cond (eqb no 0) (stars_text style edition s day1 day2) (refused_in style no)

-- ---- a plan: the sidereal time at Greenwich is the apparent one on the night's day

abbrev pub plan_style : Bool → Observer → Style
plan_style table o = cond table (PlanTable o) (Plan o)

unfoldable pub plan_of : Bool → Edition → List ℕ → Float → Float → Deg → Deg → Deg → List ℕ
plan_of table edition s day1 day2 long lat alt =
    report_of (plan_style table (observer_at (apparent_of day2) long lat alt)) edition s day1 day2

-- ---- under one rotation

-- what no reduced list begins with
abbrev pub alone_text : List ℕ
alone_text = ascii "precession alone\n"

unfoldable pub rotated_of : Edition → List ℕ → Float → Float → List ℕ
rotated_of edition s day1 day2 =
    let no = store_refusal s day1 day2 most_stars most_stars most_stars in
    cond (eqb no 0) (alone_text ++ text_by Lines edition (rotated_on edition day1 day2) s) (refused_text no)

-- bytes of the longest line for each star, and those of a head and a foot, at most
abbrev pub room : ℕ
room = 461 + 145 * most_stars
