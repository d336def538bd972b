-- The text of any bytes has room in `room` bytes, in each style.
use Prim.Native.Nat.{ℕ, ◌+◌, ◌*◌, ◌≤◌}
use Rattle.std.specs.Prelude.{◌≡◌, Bool, true, false, cond, List, [], ◌∷◌, ◌++◌, eqb, Float, length}
use Rattle.std.proofs.Math.Path.{refl}
use Rattle.std.proofs.Common.{arith, length-append, eqb-true}
use Rattle.quantity.specs.declared.Deg.{Deg}
use Rattle.quantity.specs.declared.Rad.{Rad}
use Rattle.quantity.specs.rules.Answer.{Answer, Pair}
use Rattle.edition.specs.declared.Edition.{Edition}
use Rattle.edition.specs.declared.Edition.TheVariants.{Crate, Published}
use Rattle.lent.specs.rules.Texts.{texts}
use Rattle.lent.specs.laws.Texts.{texts_short}
use Rattle.list.specs.declared.Star.{Star}
use Rattle.list.specs.rules.Stars.{most_stars, count_of, is_kept, nth}
use Rattle.list_tally.specs.declared.Tally.{Tally}
use Rattle.list_tally.specs.rules.Status.{highest_status}
use Rattle.list_tally.specs.rules.Tally.{tally_of}
use Rattle.star_store.specs.rules.Stored.{store_refusal, statuses_by}
use Rattle.batch.specs.rules.Batch.{stars_on}
use Rattle.rotation_list.specs.rules.Rotate.{rotated_on}
use Rattle.star_store.specs.laws.Stored.{accepted}
use Rattle.transit.specs.rules.Clock.{again_in}
use Rattle.transit.specs.rules.Observer.{planned_of, observer_at}
use Rattle.sidereal.specs.rules.Apparent.{apparent_of}
use Rattle.text_number.specs.rules.Bytes.{ascii, line_end}
use Rattle.text_number.specs.rules.Refused.{refused_text}
use Rattle.text_number.specs.laws.Number.{any_decimal_short, refused_short}
use Rattle.text_line.specs.laws.Room.{line_short}
use Rattle.text_row.specs.laws.Room.{row_short, plan_row_short}
use Rattle.text_time.specs.laws.Room as time
use Rattle.text_refusal.specs.laws.Room.{either_short, refusal_short, plan_refusal_short}
use Rattle.text_answers.specs.declared.Style.{Style}
use Rattle.text_answers.specs.declared.Style.TheVariants.{Lines, Table, Plan, PlanTable}
use Rattle.text_answers.specs.rules.Answers.{star_text, heading_text, plan_heading_text, edition_text, head_text, count_text, count_at, tally_text}
use Rattle.text_answers.specs.rules.Answers.{foot_text, refused_in}
use Rattle.text_answers.specs.laws.Answers.{not_refused}
use Rattle.report.specs.rules.Report.{line_by, text_by, stars_text, report_refusal, report_of, plan_style, plan_of, alone_text, rotated_of, room}

-- ---- what differs by the style

star_short : (style : Style) (number status : ℕ) (asc dec : Rad) → length (star_text style number status asc dec) ≤ 145
star_short Lines number status asc dec = omega (arith, line_short number status asc dec)
star_short Table number status asc dec = row_short number status asc dec
star_short (Plan o) number status asc dec = omega (arith, time.line_short number (planned_of status asc dec o) (again_in (planned_of status asc dec o)))
star_short (PlanTable o) number status asc dec = plan_row_short number (planned_of status asc dec o) (again_in (planned_of status asc dec o))

edition_short : (edition : Edition) → length (edition_text edition) ≤ 18
unfolding edition_text
edition_short Crate = omega arith
edition_short Published = omega arith

count_short : (n : ℕ) → length (count_text n) ≤ 21
unfolding count_text
count_short n = omega (arith, any_decimal_short n)

tally_short : (t : Tally) → length (tally_text t) ≤ 426
unfolding tally_text
tally_short t =
    let counts = texts (highest_status + 1) (count_at t.counts) in
    let end : List ℕ = line_end ∷ [] in
    let short = texts_short 21 (highest_status + 1) (count_at t.counts) (λ (k : ℕ) h. count_short _) in
    omega (arith, length-append (ascii "tally") (counts ++ end), length-append counts end, short)

-- a head and a foot together
around_short : (style : Style) (edition : Edition) (t : Tally) → length (head_text style edition) + length (foot_text style t) ≤ 444
around_short Lines edition t = omega (arith, edition_short edition, length-append (edition_text edition) [], tally_short t)
around_short Table edition t = omega (arith, edition_short edition, length-append (edition_text edition) heading_text)
around_short (Plan o) edition t = omega (arith, edition_short edition, length-append (edition_text edition) [])
around_short (PlanTable o) edition t = omega (arith, edition_short edition, length-append (edition_text edition) plan_heading_text)

refused_short_in : (style : Style) (n : ℕ) → length (refused_in style n) ≤ 444
refused_short_in Lines n = omega (arith, refused_short n)
refused_short_in Table n = omega (arith, refusal_short n)
refused_short_in (Plan o) n = omega (arith, refused_short n)
refused_short_in (PlanTable o) n = omega (arith, plan_refusal_short n)

-- ---- the whole

module _ (style : Style) (edition : Edition) (rule : Star → Answer Pair) (s : List ℕ) where
  place_short : (i : ℕ) → length (line_by style rule s i) ≤ 145
  place_short i = either_short 145 (is_kept (nth s i)) _ [] (star_short style _ _ _ _) (omega arith)

  by_short : count_of s ≤ most_stars → length (text_by style edition rule s) ≤ 444 + 145 * most_stars
  by_short h =
      let lines = texts (count_of s) (line_by style rule s) in
      let tally = tally_of (statuses_by rule s) in
      let short = texts_short 145 (count_of s) (line_by style rule s) (λ (i : ℕ) k. place_short i) in
      omega (
        arith,
        length-append (head_text style edition) (lines ++ foot_text style tally),
        length-append lines (foot_text style tally),
        around_short style edition tally,
        short,
      )

module _ (style : Style) (edition : Edition) (s : List ℕ) (day1 day2 : Float) where
  pub has_room : length (report_of style edition s day1 day2) ≤ room
  unfolding report_of
  has_room = by_case (eqb no 0) refl
    where
      no : ℕ
      no = report_refusal style s day1 day2

      by_case : (t : Bool) → eqb no 0 ≡ t → length (cond t (stars_text style edition s day1 day2) (refused_in style no)) ≤ room
      by_case true e =
          let none = not_refused style (store_refusal s day1 day2 most_stars most_stars most_stars) (eqb-true no 0 e) in
          omega (arith, by_short style edition (stars_on edition day1 day2) s (accepted s day1 day2 most_stars most_stars most_stars none).statuses)
      by_case false e = omega (arith, refused_short_in style no)

-- under one rotation
pub rotated_has_room : (edition : Edition) (s : List ℕ) (day1 day2 : Float) → length (rotated_of edition s day1 day2) ≤ room
unfolding rotated_of
rotated_has_room edition s day1 day2 = by_case (eqb no 0) refl
  where
    no : ℕ
    no = store_refusal s day1 day2 most_stars most_stars most_stars

    rule : Star → Answer Pair
    rule = rotated_on edition day1 day2

    by_case : (t : Bool) → eqb no 0 ≡ t → length (cond t (alone_text ++ text_by Lines edition rule s) (refused_text no)) ≤ room
    by_case true e =
        let few = (accepted s day1 day2 most_stars most_stars most_stars (eqb-true no 0 e)).statuses in
        omega (arith, length-append alone_text (text_by Lines edition rule s), by_short Lines edition rule s few)
    by_case false e = omega (arith, refused_short no)

-- a plan at its own sidereal time
pub plan_has_room : (table : Bool) (edition : Edition) (s : List ℕ) (day1 day2 : Float) (long lat alt : Deg)
    → length (plan_of table edition s day1 day2 long lat alt) ≤ room
unfolding plan_of
plan_has_room table edition s day1 day2 long lat alt =
    has_room (plan_style table (observer_at (apparent_of day2) long lat alt)) edition s day1 day2
