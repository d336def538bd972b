-- The text of a night's sights, which are lent by their lines, stars, statuses and bits. A text is a list of bytes.
use Rattle.std.specs.Prelude.{ℕ, cond, List, ◌++◌, eqb, ltb, length}
use Rattle.quantity.specs.declared.Deg.{Deg}
use Rattle.quantity.specs.rules.Answer.{Answer, answered, refused}
use Rattle.edition.specs.declared.Edition.{Edition}
use Rattle.lent.specs.rules.Texts.{texts}
use Rattle.residual_sheet.specs.declared.Sheet.{Sheet}
use Rattle.heading_mean.specs.rules.Reference.{reference_place}
use Rattle.heading_mean.specs.rules.Mean.{MeanAndSheet, mean, mean_heading_rule}
use Rattle.text_number.specs.rules.Bytes.{ascii}
use Rattle.text_heading.specs.rules.Place.{place_text}
use Rattle.text_heading.specs.rules.Edition.{edition_text}
use Rattle.text_heading.specs.rules.Refusal.{sight_refusal_text}
use Rattle.text_headings.specs.rules.Sight.{row_at}
use Rattle.text_headings.specs.rules.Mean.{mean_text}
use Rattle.report_day.specs.rules.Day.{open_text}
use Rattle.report_marks.specs.declared.Pad.{Pad}
use Rattle.report_mean.specs.rules.Refused.{refused_at, first_refused}

-- ---- the mean

-- each sight beside the reference
unfoldable pub meant_text : Edition → Pad → Deg → Sheet → List ℕ → List ℕ → List ℕ → List ℕ
meant_text edition pad x sheet line star heading =
    place_text pad.long pad.lat ++ (edition_text edition ++ (texts (length heading) (row_at line star heading (reference_place heading))
    ++ (mean_text x sheet ++ open_text pad.utc)))

-- where no sight is a reference, each beside the first
unfoldable pub none_agree_text : List ℕ → List ℕ → List ℕ → List ℕ
none_agree_text line star heading =
    ascii "refused 20: the sights do not agree: with none of them do more than half\n" ++ texts (length heading) (row_at line star heading 0)

unfoldable pub no_mean_text : ℕ → List ℕ → List ℕ → List ℕ → List ℕ
no_mean_text n line star heading = cond (eqb n 20) (none_agree_text line star heading) (sight_refusal_text n)

abbrev pub mean_says : Edition → Pad → Answer MeanAndSheet → List ℕ → List ℕ → List ℕ → List ℕ
mean_says edition pad (answered (mean x sheet)) line star heading = meant_text edition pad x sheet line star heading
mean_says edition pad (refused n) line star heading = no_mean_text n line star heading

unfoldable pub agreed_text : Edition → Pad → List ℕ → List ℕ → List ℕ → List ℕ
agreed_text edition pad line star heading = mean_says edition pad (mean_heading_rule heading) line star heading

-- ---- the night

-- the first refused sight alone, where there is one
unfoldable pub sights_text : Edition → Pad → List ℕ → List ℕ → List ℕ → List ℕ → List ℕ
sights_text edition pad line star status bits =
    cond (ltb (first_refused status) (length status)) (refused_at line star status bits (first_refused status)) (agreed_text edition pad line star bits)

unfoldable pub lent_text : Edition → Pad → List ℕ → List ℕ → List ℕ → List ℕ → List ℕ
lent_text edition pad line star status bits =
    cond (eqb (length line) 0) (ascii "refused 8: there is no sight\n") (sights_text edition pad line star status bits)
