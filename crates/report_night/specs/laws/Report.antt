-- What the parts of the work answer and leave is the report of the night.
use Rattle.std.specs.Prelude.{ℕ, ◌≤◌, ◌≡◌, refl, List, ℤ, length, take, Result, Ok, Err}
use Rattle.std.proofs.Math.Path.{sym, ap}
use Rattle.std.proofs.Common.{◌∙◌, arith}
use Rattle.edition.specs.declared.Edition.{Edition}
use Rattle.lent.specs.rules.Writing.{Wrote, offset_after}
use Rattle.lent.specs.laws.Writing.{inside}
use Rattle.list.specs.rules.Stars.{most_stars}
use Rattle.text_fields.specs.declared.Stopped.{Stopped}
use Rattle.text_fields.specs.declared.UnclearAt.{UnclearAt}
use Rattle.text_fields.specs.rules.Stored.{stored_rule, EntriesStored}
use Rattle.text_fields.specs.laws.Stored.{lines_front, stars_front, firsts_front, seconds_front}
use Rattle.text_night.specs.rules.Sight.{sight_rule}
use Rattle.text_night.specs.rules.Sights.{entry_of, entries_of}
use Rattle.report_marks.specs.declared.Pad.{Pad}
use Rattle.report_marks.specs.rules.Marked.{columns}
use Rattle.report_mean.specs.rules.Text.{lent_text}
use Rattle.report_night.specs.rules.Report.{Report, says, unclear_line, unclear, length_of, Reported, night_text, sights_report, report_of}

pub text_reported : {old : List ℕ} {p : Report} {t new : List ℕ} {k : ℕ} → p ≡ says t → Wrote old 0 t new k → Reported old p (Ok k) new
text_reported e w = rw e (record { answer = ap Ok w.offset; slice = w.text })

pub unclear_reported : {old : List ℕ} {p : Report} {l : ℕ} → p ≡ unclear_line l → Reported old p (Err (unclear l)) old
unclear_reported e = rw e (record { answer = refl; slice = refl })

-- a text that is told lies in the slice
pub text_inside : {old : List ℕ} {p : Report} {r : Result ℕ UnclearAt} {new : List ℕ} → Reported old p r new → length_of r ≤ length new
text_inside {old} {p = says t} {new = new} h =
    let w : Wrote old 0 t new (offset_after old 0 t) = record { text = h.slice; offset = refl } in
    omega (arith, inside w, ap length_of h.answer)
text_inside {p = unclear_line l} h = omega (arith, ap length_of h.answer)

module _ (edition : Edition) (pad : Pad) (s text : List ℕ) (dut1 : ℤ) where
  -- a text that was read leads on by what it gave
  pub report_by : (r : Result ℕ Stopped) → r ≡ stored_rule (sight_rule dut1) entry_of most_stars text
      → report_of edition pad s text dut1 ≡ sights_report r (night_text edition pad s (entries_of dut1 text))
  unfolding report_of
  report_by r e = ap (λ (q : Result ℕ Stopped). sights_report q (night_text edition pad s (entries_of dut1 text))) (sym e)

  -- and one that was read whole by its sights
  pub read_night : (n : ℕ) (e : Ok n ≡ stored_rule (sight_rule dut1) entry_of most_stars text)
      → {line star status bits : List ℕ} {r : Result ℕ Stopped} {line' star' status' bits' : List ℕ}
      → EntriesStored (sight_rule dut1) entry_of (columns edition pad s) most_stars text line star status bits r line' star' status' bits'
      → report_of edition pad s text dut1 ≡ says (lent_text edition pad (take n line') (take n star') (take n status') (take n bits'))
  unfolding night_text
  read_night n e rs =
      let p = lines_front (sight_rule dut1) entry_of most_stars text n e rs in
      let q = stars_front (sight_rule dut1) entry_of most_stars text n e rs in
      let t = firsts_front (sight_rule dut1) entry_of most_stars text n e rs in
      let u = seconds_front (sight_rule dut1) entry_of most_stars text n e rs in
      report_by (Ok n) e ∙ sym (λ j. says (lent_text edition pad (p j) (q j) (t j) (u j)))
