-- How long the text of a night's sights is, at most.
use Rattle.std.specs.Prelude.{ℕ, ◌+◌, ◌*◌, ◌≤◌, List, eqb, ltb, get_or}
use Rattle.std.proofs.Common.{arith}
use Rattle.std.proofs.Math.ListN.{length, length-append}
use Rattle.quantity.specs.declared.Deg.{Deg}
use Rattle.quantity.specs.rules.Answer.{Answer, answered, refused}
use Rattle.edition.specs.declared.Edition.{Edition}
use Rattle.residual_sheet.specs.declared.Sheet.{Sheet}
use Rattle.heading_mean.specs.rules.Reference.{reference_place}
use Rattle.heading_mean.specs.rules.Mean.{MeanAndSheet, mean, mean_heading_rule}
use Rattle.text_number.specs.rules.Bytes.{ascii}
use Rattle.text_refusal.specs.laws.Room.{either_short}
use Rattle.text_heading.specs.rules.Refusal.{sight_refusal_text, mark_refusal_text}
use Rattle.text_heading.specs.laws.Room.{place_short, edition_short, sight_refusal_short, mark_refusal_short}
use Rattle.text_headings.specs.laws.Room.{sight_of_short, rows_short, mean_short}
use Rattle.report_day.specs.laws.Room.{open_short}
use Rattle.report_marks.specs.declared.Pad.{Pad}
use Rattle.report_mean.specs.rules.Refused.{refusal_text, refused_text, refused_at, first_refused}
use Rattle.report_mean.specs.rules.Text.{meant_text, none_agree_text, no_mean_text, mean_says, agreed_text, sights_text, lent_text}

refusal_short : (status bits : ℕ) → length (refusal_text status bits) ≤ 179
unfolding refusal_text
refusal_short status bits =
    either_short 179 (eqb bits 0) (sight_refusal_text status) (mark_refusal_text status) (sight_refusal_short status) (omega (arith, mark_refusal_short status))

refused_short : (line star status bits : ℕ) → length (refused_text line star status bits) ≤ 232
unfolding refused_text
refused_short line star status bits =
    let a = refusal_short status bits in
    let b = sight_of_short line star in
    simp length-append (omega arith)

module _ (edition : Edition) (pad : Pad) (line star : List ℕ) where
  meant_short : (x : Deg) (sheet : Sheet) (heading : List ℕ) → length (meant_text edition pad x sheet line star heading) ≤ 420 + 197 * length heading
  unfolding meant_text
  meant_short x sheet heading =
      let a = place_short pad.long pad.lat in
      let b = edition_short edition in
      let c = rows_short line star heading (reference_place heading) (length heading) in
      let d = mean_short x sheet in
      let e = open_short pad.utc in
      simp length-append (omega arith)

  none_agree_short : (heading : List ℕ) → length (none_agree_text line star heading) ≤ 420 + 197 * length heading
  unfolding none_agree_text
  none_agree_short heading = let a = rows_short line star heading 0 (length heading) in simp length-append (omega arith)

  no_mean_short : (n : ℕ) (heading : List ℕ) → length (no_mean_text n line star heading) ≤ 420 + 197 * length heading
  unfolding no_mean_text
  no_mean_short n heading =
      either_short (420 + 197 * length heading) (eqb n 20) (none_agree_text line star heading) (sight_refusal_text n) (none_agree_short heading)
      (omega (arith, sight_refusal_short n))

  agreed_short : (heading : List ℕ) → length (agreed_text edition pad line star heading) ≤ 420 + 197 * length heading
  unfolding agreed_text
  agreed_short heading = by_case (mean_heading_rule heading)
    where
      by_case : (a : Answer MeanAndSheet) → length (mean_says edition pad a line star heading) ≤ 420 + 197 * length heading
      by_case (answered (mean x sheet)) = meant_short x sheet heading
      by_case (refused n) = no_mean_short n heading

  pub lent_short : (status bits : List ℕ) → length (lent_text edition pad line star status bits) ≤ 420 + 197 * length bits
  unfolding lent_text sights_text
  lent_short status bits =
      let i = first_refused status in
      either_short (420 + 197 * length bits) (eqb (length line) 0) (ascii "refused 8: there is no sight\n") _ (omega arith)
      (either_short (420 + 197 * length bits) (ltb i (length status)) (refused_at line star status bits i) (agreed_text edition pad line star bits)
      (omega (arith, refused_short (get_or line i 0) (get_or star i 0) (get_or status i 0) (get_or bits i 0))) (agreed_short bits))
