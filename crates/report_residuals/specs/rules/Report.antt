-- A night: the list reduced, the sights of the text, each beside what its star came to, and their text in a style.
use Rattle.std.specs.Prelude.{ℕ, ◌+◌, ◌*◌, cond, List, map, eqb, Float, Result, Ok, Err}
use Rattle.quantity.specs.rules.Answer.{status_of}
use Rattle.edition.specs.declared.Edition.{Edition}
use Rattle.list.specs.rules.Stars.{most_stars}
use Rattle.star_store.specs.rules.Star.{first_bits, second_bits}
use Rattle.star_store.specs.rules.Stored.{store_refusal}
use Rattle.text_fields.specs.declared.Stopped.{Stopped}
use Rattle.text_fields.specs.declared.Stopped.TheVariants as stopped
use Rattle.text_measured.specs.rules.Sights.{Entry, entries_of, sights_rule, asc_bits, dec_bits}
use Rattle.report_residuals.specs.declared.Style.{Style}
use Rattle.report_residuals.specs.rules.Came.{came_to, lent_came}
use Rattle.report_residuals.specs.rules.Text.{Report, list_refused, unclear_line, too_many, sheets_report}

-- of sights that all have a place
unfoldable pub night_report : Style → Edition → List ℕ → Float → Float → List Entry → Report
night_report style edition s day1 day2 es =
    sheets_report style (map (λ (e : Entry). e.line) es) (map (λ (e : Entry). e.number) es)
    (map (λ (e : Entry). status_of (came_to edition s day1 day2 e.number)) es)
    (map (λ (e : Entry). first_bits (came_to edition s day1 day2 e.number)) es)
    (map (λ (e : Entry). second_bits (came_to edition s day1 day2 e.number)) es)
    (map asc_bits es) (map dec_bits es)

-- of what reading the text gave: its sights, a line that cannot be read, or more sights than a list has stars
abbrev pub sights_report : Result ℕ Stopped → Report → Report
sights_report (Ok n) night = night
sights_report (Err (stopped.Unclear line)) night = unclear_line line
sights_report (Err stopped.Full) night = too_many

-- the list's refusal first: 1, 2, 8; then the text's; then the sheet's
unfoldable pub report_of : Style → Edition → List ℕ → Float → Float → List ℕ → Report
report_of style edition s day1 day2 text =
    let n = store_refusal s day1 day2 most_stars most_stars most_stars in
    cond (eqb n 0) (sights_report (sights_rule most_stars text) (night_report style edition s day1 day2 (entries_of text))) (list_refused n)

-- ---- by the way of the code

-- of a list whose stars' statuses and angles are lent, and of sights by their lines, stars and angles
unfoldable pub matched_report : Style → List ℕ → List ℕ → List ℕ → List ℕ → List ℕ → List ℕ → List ℕ → List ℕ → Report
matched_report style s status asc dec line star measuredAsc measuredDec =
    sheets_report style line star
    (map (λ (n : ℕ). (lent_came s status asc dec n).status) star)
    (map (λ (n : ℕ). (lent_came s status asc dec n).asc) star)
    (map (λ (n : ℕ). (lent_came s status asc dec n).dec) star)
    measuredAsc measuredDec

unfoldable pub sighted_report : Style → List ℕ → List ℕ → List ℕ → List ℕ → List ℕ → Report
sighted_report style s status asc dec text =
    let es = entries_of text in
    sights_report (sights_rule most_stars text)
    (matched_report style s status asc dec (map (λ (e : Entry). e.line) es) (map (λ (e : Entry). e.number) es) (map asc_bits es) (map dec_bits es))

-- bytes of the longest text, at most: so many a sight, and those of the sheet
abbrev pub room : ℕ
room = 644 + 177 * most_stars
