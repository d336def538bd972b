-- Wrong variants of a list's report.
use Rattle.std.specs.Prelude.{ℕ, cond, List, ◌++◌, eqb, Float}
use Rattle.quantity.specs.rules.Angle.{rad}
use Rattle.quantity.specs.rules.Answer.{status_of}
use Rattle.edition.specs.declared.Edition.{Edition}
use Rattle.transit.specs.declared.Observer.{Observer}
use Rattle.transit.specs.rules.Observer.{plan_refusal}
use Rattle.lent.specs.rules.Texts.{texts}
use Rattle.list.specs.rules.Stars.{most_stars, count_of, nth}
use Rattle.list_tally.specs.rules.Tally.{tally_of}
use Rattle.star_store.specs.rules.Star.{first_of, second_of}
use Rattle.batch.specs.rules.Star.{star_rule}
use Rattle.star_store.specs.rules.Stored.{store_refusal}
use Rattle.batch.specs.rules.Batch.{statuses_of}
use Rattle.rotation_list.specs.rules.Rotate.{rotated_on}
use Rattle.text_number.specs.rules.Refused.{refused_text}
use Rattle.text_answers.specs.declared.Style.{Style}
use Rattle.text_answers.specs.declared.Style.TheVariants.{Lines, Table, Plan}
use Rattle.text_answers.specs.rules.Answers.{star_text, heading_text, heading_in, head_text, foot_text, refused_in}
use Rattle.report.specs.rules.Report.{text_by, star_line, stars_text, report_refusal, alone_text}

-- a plan with another refusal of the call, of the list's and the observer's
abbrev refused_by : (ℕ → ℕ → ℕ) → Observer → Edition → List ℕ → Float → Float → List ℕ
refused_by both o edition s day1 day2 =
    let no = both (store_refusal s day1 day2 most_stars most_stars most_stars) (plan_refusal o) in
    cond (eqb no 0) (stars_text (Plan o) edition s day1 day2) (refused_in (Plan o) no)

-- the list before the observer
abbrev pub eight_before_three : Observer → Edition → List ℕ → Float → Float → List ℕ
eight_before_three = refused_by (λ (list observer : ℕ). cond (eqb list 0) observer list)

-- the observer left to the stars
abbrev pub observer_not_refused : Observer → Edition → List ℕ → Float → Float → List ℕ
observer_not_refused = refused_by (λ (list observer : ℕ). list)

-- a refused call as a list without stars
abbrev pub refused_as_empty : Style → Edition → List ℕ → Float → Float → List ℕ
refused_as_empty style edition s day1 day2 = head_text style edition

-- a style without a foot, with another head
abbrev headed_by : (Style → List ℕ) → Style → Edition → List ℕ → Float → Float → List ℕ
headed_by head style edition s day1 day2 =
    let no = report_refusal style s day1 day2 in
    cond (eqb no 0) (head style ++ texts (count_of s) (star_line style edition s day1 day2)) (refused_in style no)

-- both editions alike
abbrev pub edition_unsaid : Style → Edition → List ℕ → Float → Float → List ℕ
edition_unsaid = headed_by heading_in

-- places promised over the times of a plan
abbrev pub heading_of_places : Style → Edition → List ℕ → Float → Float → List ℕ
heading_of_places = headed_by (λ (style : Style). heading_text)

-- an observer refused as a list is, so that 3 and 4 are not his
abbrev pub observer_without_words : Style → List ℕ → Float → Float → List ℕ
observer_without_words style s day1 day2 = refused_in Table (report_refusal style s day1 day2)

-- star i, whether it is kept or not
abbrev any_line : Style → Edition → List ℕ → Float → Float → ℕ → List ℕ
any_line style edition s day1 day2 i =
    let a = star_rule edition (nth s i) day1 day2 in
    star_text style (nth s i).number (status_of a) (rad (first_of a)) (rad (second_of a))

-- a line for an empty place, as a refused star has one
abbrev pub empty_has_line : Style → Edition → List ℕ → Float → Float → List ℕ
empty_has_line style edition s day1 day2 =
    head_text style edition
    ++ (texts (count_of s) (any_line style edition s day1 day2) ++ foot_text style (tally_of (statuses_of edition s day1 day2)))

-- ---- under one rotation

-- as a reduced list is printed, so that one is taken for the other
abbrev pub alone_unsaid : Edition → List ℕ → Float → Float → List ℕ
alone_unsaid edition s day1 day2 =
    let no = store_refusal s day1 day2 most_stars most_stars most_stars in
    cond (eqb no 0) (text_by Lines edition (rotated_on edition day1 day2) s) (refused_text no)

-- said of a refused call too
abbrev pub alone_of_a_refusal : Edition → List ℕ → Float → Float → List ℕ
alone_of_a_refusal edition s day1 day2 = alone_text ++ alone_unsaid edition s day1 day2
