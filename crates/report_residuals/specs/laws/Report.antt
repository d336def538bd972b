-- What the parts of the work answer and leave is the report of the night.
use Rattle.std.specs.Prelude.{ℕ, ◌≤◌, ◌<◌, ◌≡◌, Bool, List, [], ◌∷◌, map, eqb, ltb, Float, length, take, Result, Ok}
use Rattle.std.proofs.Math.Path.{refl, sym, ap}
use Rattle.std.proofs.Common.{◌∙◌, arith}
use Rattle.std.proofs.Math.Bool.{true, false, cond}
use borrow.Author.Tests.{ltb-true}
use Rattle.double.specs.laws.ReadBack.{zero_bits_lem}
use Rattle.quantity.specs.declared.Refusal.{Refusal}
use Rattle.quantity.specs.rules.Answer.{Answer, answered, refused, Pair, then, status_of}
use Rattle.edition.specs.declared.Edition.{Edition}
use Rattle.lent.specs.rules.Writing.{Wrote, offset_after}
use Rattle.lent.specs.laws.Writing.{inside}
use Rattle.list.specs.rules.Record.{in_range}
use Rattle.list.specs.rules.Stars.{most_stars, is_list, count_of, stars, nth}
use Rattle.list.specs.rules.Find.{Entry, entry_at, index_of}
use Rattle.list.specs.laws.Stars.{length_stars}
use Rattle.list_tally.specs.declared.Tally.{Tally}
use Rattle.star_store.specs.rules.Star.{first_bits, second_bits}
use Rattle.star_store.specs.rules.Stored.{store_refusal}
use Rattle.star_store.specs.laws.Stored.{status_at, asc_at, dec_at}
use Rattle.batch.specs.rules.Star.{star_rule}
use Rattle.batch.specs.rules.Batch.{Batch}
use Rattle.text_fields.specs.declared.Stopped.{Stopped}
use Rattle.text_fields.specs.laws.Stored.{lines_front, stars_front, firsts_front, seconds_front}
use Rattle.text_measured.specs.rules.Sight.{sight_rule}
use Rattle.text_measured.specs.rules.Sights as measured
use Rattle.text_measured.specs.rules.Sights.{entry_of, entries_of, sights_rule, asc_bits, dec_bits, ReadSights}
use Rattle.report_residuals.specs.declared.Style.{Style}
use Rattle.report_residuals.specs.declared.Came.{Came}
use Rattle.report_residuals.specs.declared.Untold.{Untold}
use Rattle.report_residuals.specs.rules.Came.{came_to, came_at, lent_came}
use Rattle.report_residuals.specs.rules.Text.{Report, says, list_refused, unclear_line, too_many, sheet_refused, Text, shown_told, told_of, slice_of, length_of, Reported, sheets_report}
use Rattle.report_residuals.specs.rules.Report.{night_report, sights_report, report_of, matched_report, sighted_report}

-- ---- what is reported

pub text_reported : {old : List ℕ} {p : Report} {t new : List ℕ} {k : ℕ} → p ≡ says t → Wrote old 0 t new k → Reported old p (Ok k) new
text_reported e w = rw e (record { answer = ap Text w.offset; slice = w.text })

pub as_said : {old : List ℕ} {p : Report} (q : Report) (r : Result ℕ Untold) → p ≡ q → shown_told r ≡ told_of old q → Reported old p r (slice_of old q)
as_said q r e h = rw e (record { answer = h; slice = refl })

pub reported_as : {old : List ℕ} {p q : Report} {r : Result ℕ Untold} {new : List ℕ} → p ≡ q → Reported old q r new → Reported old p r new
reported_as e h = rw e h

-- a text that is told lies in the slice
pub text_inside : {old : List ℕ} {p : Report} {r : Result ℕ Untold} {new : List ℕ} → Reported old p r new → length_of (shown_told r) ≤ length new
text_inside {old} {p = says t} {new = new} h =
    let w : Wrote old 0 t new (offset_after old 0 t) = record { text = h.slice; offset = refl } in
    omega (arith, inside w, ap length_of h.answer)
text_inside {p = list_refused n} h = omega (arith, ap length_of h.answer)
text_inside {p = unclear_line l} h = omega (arith, ap length_of h.answer)
text_inside {p = too_many} h = omega (arith, ap length_of h.answer)
text_inside {p = sheet_refused n} h = omega (arith, ap length_of h.answer)

-- a refused list
pub list_refused_lem : (style : Style) (edition : Edition) (s : List ℕ) (day1 day2 : Float) (text : List ℕ) (n : ℕ)
    → n ≡ store_refusal s day1 day2 most_stars most_stars most_stars → eqb n 0 ≡ false → report_of style edition s day1 day2 text ≡ list_refused n
unfolding report_of
list_refused_lem style edition s day1 day2 text n e h = rw (sym e, h)

-- a text that was read leads on by what it gave
pub sighted_by : (style : Style) (s status asc dec text : List ℕ) (r : Result ℕ Stopped) → r ≡ sights_rule most_stars text
    → sighted_report style s status asc dec text
    ≡ sights_report r
    (matched_report style s status asc dec (map (λ (e : measured.Entry). e.line) (entries_of text))
    (map (λ (e : measured.Entry). e.number) (entries_of text)) (map asc_bits (entries_of text)) (map dec_bits (entries_of text)))
unfolding sighted_report
sighted_by style s status asc dec text r e =
    ap
    (λ (q : Result ℕ Stopped).
    sights_report q
    (matched_report style s status asc dec (map (λ (e : measured.Entry). e.line) (entries_of text))
    (map (λ (e : measured.Entry). e.number) (entries_of text)) (map asc_bits (entries_of text)) (map dec_bits (entries_of text))))
    (sym e)

-- a text that was read whole leads on with its sights
pub read_sighted : (text : List ℕ) (n : ℕ) (e : Ok n ≡ sights_rule most_stars text) {line star asc dec : List ℕ} {r : Result ℕ Stopped} {line' star' asc' dec' : List ℕ}
    → ReadSights most_stars text line star asc dec r line' star' asc' dec' → (style : Style) (s status ascs decs : List ℕ)
    → sighted_report style s status ascs decs text ≡ matched_report style s status ascs decs (take n line') (take n star') (take n asc') (take n dec')
read_sighted text n e rs style s status ascs decs =
    let p = lines_front sight_rule entry_of most_stars text n e rs in
    let q = stars_front sight_rule entry_of most_stars text n e rs in
    let t = firsts_front sight_rule entry_of most_stars text n e rs in
    let u = seconds_front sight_rule entry_of most_stars text n e rs in
    sighted_by style s status ascs decs text (Ok n) e
    ∙ sym (λ j. matched_report style s status ascs decs (p j) (q j) (t j) (u j))

-- ---- what a star came to

module _ (edition : Edition) {s : List ℕ} {day1 day2 : Float} {status asc dec : List ℕ} {r : Result Tally Refusal} {status' asc' dec' : List ℕ}
    (b : Batch edition s day1 day2 status asc dec r status' asc' dec')
    (none : store_refusal s day1 day2 (length status) (length asc) (length dec) ≡ 0) where
  abbrev came : Answer Pair → Came
  came a = record { status = status_of a; asc = first_bits a; dec = second_bits a }

  abbrev answer : Entry → Answer Pair
  answer e = star_rule edition e.star day1 day2

  refused_came : (n : ℕ) → came_at status' asc' dec' (refused n) ≡ came (refused n)
  refused_came n = let bare = sym zero_bits_lem in λ j. record { status = n; asc = bare j; dec = bare j }

  at_index : (i : ℕ) (t u : Bool) → ltb i (length (stars s)) ≡ t
      → came_at status' asc' dec' (cond t (cond u (answered (record { index = i; star = nth s i })) (refused 9)) (refused 10))
      ≡ came (then (cond t (cond u (answered (record { index = i; star = nth s i })) (refused 9)) (refused 10)) answer)
  unfolding then
  at_index i true true h =
      let inside : i < count_of s = omega (arith, ltb-true i (length (stars s)) h, length_stars s) in
      λ j. record { status = status_at b none i inside j; asc = asc_at b none i inside j; dec = dec_at b none i inside j }
  at_index i true false h = refused_came 9
  at_index i false u h = refused_came 10

  in_list : (t u : Bool) (i : ℕ) → came_at status' asc' dec' (cond t (cond u (refused 10) (entry_at (stars s) i)) (refused 8))
      ≡ came (then (cond t (cond u (refused 10) (entry_at (stars s) i)) (refused 8)) answer)
  unfolding then
  in_list true true i = refused_came 10
  in_list true false i = at_index i (ltb i (length (stars s))) (in_range (nth s i)) refl
  in_list false u i = refused_came 8

  came_is : (number : ℕ) → lent_came s status' asc' dec' number ≡ came (came_to edition s day1 day2 number)
  unfolding lent_came came_to
  came_is number = in_list (is_list s) (eqb number 0) (index_of number (stars s))

  -- of every sight
  all_came : (f : Came → ℕ) (l : List measured.Entry)
      → map (λ (n : ℕ). f (lent_came s status' asc' dec' n)) (map (λ (e : measured.Entry). e.number) l)
      ≡ map (λ (e : measured.Entry). f (came (came_to edition s day1 day2 e.number))) l
  all_came f [] = refl
  all_came f (e ∷ l) = λ j. f (came_is e.number j) ∷ all_came f l j

  pub sighted_is : (style : Style) (text : List ℕ) → sighted_report style s status' asc' dec' text
      ≡ sights_report (sights_rule most_stars text) (night_report style edition s day1 day2 (entries_of text))
  unfolding sighted_report matched_report night_report
  sighted_is style text =
      let all = entries_of text in
      λ j.
      sights_report (sights_rule most_stars text)
      (sheets_report style (map (λ (e : measured.Entry). e.line) all) (map (λ (e : measured.Entry). e.number) all)
      (all_came (λ (c : Came). c.status) all j) (all_came (λ (c : Came). c.asc) all j) (all_came (λ (c : Came). c.dec) all j)
      (map asc_bits all) (map dec_bits all))

  -- in slices for as many stars as a list may have
  pub report_is : (style : Style) (text : List ℕ) → length status ≡ most_stars → length asc ≡ most_stars → length dec ≡ most_stars
      → report_of style edition s day1 day2 text ≡ sighted_report style s status' asc' dec' text
  unfolding report_of
  report_is style text p q t =
      ap (λ (k : ℕ). cond (eqb k 0) (sights_report (sights_rule most_stars text) (night_report style edition s day1 day2 (entries_of text))) (list_refused k))
      (ap (λ (k : ℕ). store_refusal s day1 day2 k most_stars most_stars) (sym p)
      ∙ ap (λ (k : ℕ). store_refusal s day1 day2 (length status) k most_stars) (sym q)
      ∙ ap (λ (k : ℕ). store_refusal s day1 day2 (length status) (length asc) k) (sym t)
      ∙ none)
      ∙ sym (sighted_is style text)
