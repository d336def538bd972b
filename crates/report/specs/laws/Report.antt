-- The text of what a call of the batch answered and left is the report of the list.
use Rattle.std.specs.Prelude.{ℕ, ◌<◌, ◌≡◌, Float, length, get_or, Result, Ok, Err}
use Rattle.std.proofs.Math.Path.{sym, ap}
use Rattle.std.proofs.Common.{◌∙◌}
use Rattle.std.proofs.Math.Bool.{cond}
use mathlib.Core.List.{List, ◌++◌}
use Rattle.std.proofs.Math.Dec.{eqb}
use borrow.Author.Tests.{ne_eqb}
use Rattle.std.proofs.lemmas.Bool.{eqb-false}
use Rattle.double.specs.rules.Operations.{bits}
use Rattle.quantity.specs.declared.Refusal.{Refusal}
use Rattle.quantity.specs.rules.Answer.{Answer, Pair, number, shown}
use Rattle.quantity.specs.laws.Answer.{number_not_none}
use Rattle.edition.specs.declared.Edition.{Edition}
use Rattle.lent.specs.rules.Texts.{texts}
use Rattle.lent.specs.laws.Texts.{texts_same}
use Rattle.list.specs.declared.Star.{Star}
use Rattle.list.specs.rules.Stars.{most_stars, count_of, nth}
use Rattle.list_tally.specs.declared.Tally.{Tally}
use Rattle.star_store.specs.rules.Star.{first_of, second_of}
use Rattle.star_store.specs.rules.Stored.{Tallied, shown_tallied, store_refusal, StarsStored}
use Rattle.star_store.specs.laws.Stored.{tally_is, status_at}
use Rattle.batch.specs.rules.Batch.{Batch}
use Rattle.batch.specs.laws.Batch.{asc_read, dec_read}
use Rattle.rotation_list.specs.rules.Rotate.{Rotated}
use Rattle.rotation_list.specs.laws.Rotate as rotation
use Rattle.text_number.specs.rules.Refused.{refused_text}
use Rattle.text_answers.specs.declared.Style.{Style}
use Rattle.text_answers.specs.declared.Style.TheVariants.{Lines}
use Rattle.text_answers.specs.rules.Answers.{head_text, foot_text, refusal_in, refused_in, lent_line, list_text, answers_text}
use Rattle.text_answers.specs.laws.Answers.{not_refused}
use Rattle.report.specs.rules.Report.{line_by, text_by, stars_text, report_of, alone_text, rotated_of}

-- what a call stored by a rule of a star, and left to be read back, is the text by that rule
pub list_is : (style : Style) (edition : Edition) {rule : Star → Answer Pair} {s : List ℕ} {day1 day2 : Float} {status asc dec : List ℕ}
    {r : Result Tally Refusal} {status' asc' dec' : List ℕ} (b : StarsStored rule s day1 day2 status asc dec r status' asc' dec')
    → store_refusal s day1 day2 (length status) (length asc) (length dec) ≡ 0
    → ((i : ℕ) → i < count_of s → bits (get_or asc' i 0) ≡ first_of (rule (nth s i)))
    → ((i : ℕ) → i < count_of s → bits (get_or dec' i 0) ≡ second_of (rule (nth s i)))
    → list_text style edition s status' asc' dec' (shown_tallied r).tally ≡ text_by style edition rule s
unfolding list_text
list_is style edition {rule} {s} {r = r} {status' = status'} {asc'} {dec'} b e asc-is dec-is =
    ap (λ (t : List ℕ). head_text style edition ++ (t ++ foot_text style (shown_tallied r).tally))
    (texts_same (count_of s) (lent_line style s status' asc' dec') (line_by style rule s)
    (λ (i : ℕ) (h : i < count_of s). simp (status_at b e i h, asc-is i h, dec-is i h)))
    ∙ ap (λ (t : Tally). head_text style edition ++ (texts (count_of s) (line_by style rule s) ++ foot_text style t)) (tally_is b e)

-- of as many stars as a list may have
slices_as_long : (s : List ℕ) (day1 day2 : Float) (p q t : ℕ) → p ≡ most_stars → q ≡ most_stars → t ≡ most_stars
    → store_refusal s day1 day2 p q t ≡ store_refusal s day1 day2 most_stars most_stars most_stars
slices_as_long s day1 day2 p q t e f g =
    ap (λ (n : ℕ). store_refusal s day1 day2 n q t) e
    ∙ ap (λ (n : ℕ). store_refusal s day1 day2 most_stars n t) f
    ∙ ap (λ (n : ℕ). store_refusal s day1 day2 most_stars most_stars n) g

module _ (style : Style) (edition : Edition) {s : List ℕ} {day1 day2 : Float} {status asc dec : List ℕ}
    {r : Result Tally Refusal} {status' asc' dec' : List ℕ}
    (b : Batch edition s day1 day2 status asc dec r status' asc' dec') where
  abbrev call_refusal : ℕ
  call_refusal = store_refusal s day1 day2 (length status) (length asc) (length dec)

  -- with such a text where the call is not refused
  abbrev unless_refused : ℕ → List ℕ → List ℕ
  unless_refused n t = cond (eqb (refusal_in style n) 0) t (refused_in style (refusal_in style n))

  accepted_text : call_refusal ≡ 0 → list_text style edition s status' asc' dec' (shown_tallied r).tally ≡ stars_text style edition s day1 day2
  accepted_text e = list_is style edition b e (asc_read edition b e) (dec_read edition b e)

  done_text : answers_text style edition s status' asc' dec' (shown r) ≡ unless_refused call_refusal (stars_text style edition s day1 day2)
  unfolding answers_text
  done_text = by_answer r (ap (λ (q : Tallied). q.refusal) b.answer) accepted_text
    where
      by_answer : (q : Result Tally Refusal) → (shown_tallied q).refusal ≡ call_refusal
          → (call_refusal ≡ 0 → list_text style edition s status' asc' dec' (shown_tallied q).tally ≡ stars_text style edition s day1 day2)
          → answers_text style edition s status' asc' dec' (shown q) ≡ unless_refused call_refusal (stars_text style edition s day1 day2)
      by_answer (Ok tally) e h = rw (← e, h (sym e))
      by_answer (Err n) e h =
          rw (← e, ne_eqb (refusal_in style (number n)) 0 (λ none. eqb-false (number n) 0 (number_not_none n) (not_refused style (number n) none)))

  -- with slices for as many stars as a list may have
  pub report_is : length status ≡ most_stars → length asc ≡ most_stars → length dec ≡ most_stars
      → answers_text style edition s status' asc' dec' (shown r) ≡ report_of style edition s day1 day2
  unfolding report_of
  report_is p q t =
      done_text
      ∙ ap (λ (n : ℕ). unless_refused n (stars_text style edition s day1 day2))
      (slices_as_long s day1 day2 _ _ _ p q t)

-- ---- under one rotation

module _ (edition : Edition) {s : List ℕ} {day1 day2 : Float} {status asc dec : List ℕ} {r : Result Tally Refusal}
    {status' asc' dec' : List ℕ} (b : Rotated edition s day1 day2 status asc dec r status' asc' dec')
    (p : length status ≡ most_stars) (q : length asc ≡ most_stars) (t : length dec ≡ most_stars) where
  -- the refusal of the call is the rule's
  is_refusal : (shown_tallied r).refusal ≡ store_refusal s day1 day2 most_stars most_stars most_stars
  is_refusal = ap (λ (k : Tallied). k.refusal) b.answer ∙ slices_as_long s day1 day2 _ _ _ p q t

  pub rotated_refused : {n : Refusal} → r ≡ Err n → refused_text (number n) ≡ rotated_of edition s day1 day2
  unfolding rotated_of
  rotated_refused {n} h = rw (← (rw h at is_refusal), number_not_none n)

  pub rotated_is : {tally : Tally} → r ≡ Ok tally
      → alone_text ++ list_text Lines edition s status' asc' dec' tally ≡ rotated_of edition s day1 day2
  unfolding rotated_of
  rotated_is {tally} h =
      let none = rw h at (sym (ap (λ (k : Tallied). k.refusal) b.answer)) in
      let text = rw h at (list_is Lines edition b none (rotation.asc_read edition b none) (rotation.dec_read edition b none)) in
      ap (λ (l : List ℕ). alone_text ++ l) text ∙ rw (← (rw h at is_refusal))
