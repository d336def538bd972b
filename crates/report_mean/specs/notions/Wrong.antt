-- Wrong variants of the text of a night's sights.
use Rattle.std.specs.Prelude.{ℕ, suc, cond, List, [], ◌∷◌, ◌++◌, eqb, ltb, length}
use Rattle.quantity.specs.declared.Deg.{Deg}
use Rattle.edition.specs.declared.Edition.{Edition}
use Rattle.lent.specs.rules.Texts.{texts}
use Rattle.residual_sheet.specs.declared.Sheet.{Sheet}
use Rattle.text_heading.specs.rules.Place.{place_text}
use Rattle.text_heading.specs.rules.Edition.{edition_text}
use Rattle.text_heading.specs.rules.Refusal.{sight_refusal_text, mark_refusal_text}
use Rattle.text_headings.specs.rules.Sight.{row_at}
use Rattle.text_headings.specs.rules.Mean.{mean_text}
use Rattle.report_day.specs.rules.Day.{open_text}
use Rattle.report_marks.specs.declared.Pad.{Pad}
use Rattle.report_mean.specs.rules.Refused.{refusal_text}
use Rattle.report_mean.specs.rules.Text.{agreed_text}

-- the mark's words for the star's
abbrev pub kinds_confused : ℕ → ℕ → List ℕ
kinds_confused status bits = cond (eqb bits 0) (mark_refusal_text status) (sight_refusal_text status)

-- without the sight's line and star
abbrev pub sight_unsaid : ℕ → ℕ → ℕ → ℕ → List ℕ
sight_unsaid line star status bits = refusal_text status bits

-- the place of the last that is refused
abbrev pub last_refused : List ℕ → ℕ
last_refused [] = 0
last_refused (n ∷ status) = cond (ltb (last_refused status) (length status)) (suc (last_refused status)) (cond (eqb n 0) (suc (length status)) 0)

-- the first sight as the reference, whoever agrees with it
abbrev pub first_for_reference : Edition → Pad → Deg → Sheet → List ℕ → List ℕ → List ℕ → List ℕ
first_for_reference edition pad x sheet line star heading =
    place_text pad.long pad.lat ++ (edition_text edition ++ (texts (length heading) (row_at line star heading 0)
    ++ (mean_text x sheet ++ open_text pad.utc)))

-- no word of the sights where none is a reference
abbrev pub sights_unsaid : ℕ → List ℕ → List ℕ → List ℕ → List ℕ
sights_unsaid n line star heading = sight_refusal_text n

-- a mean in spite of a refused sight, whose bits are no heading
abbrev pub refused_taken_in : Edition → Pad → List ℕ → List ℕ → List ℕ → List ℕ → List ℕ
refused_taken_in edition pad line star status bits = agreed_text edition pad line star bits
