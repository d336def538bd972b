-- What holds of a set of headings that is not refused; and one answer alone meets the promise.
use Rattle.std.specs.Prelude.{◌≡◌, Bool, true, false, cond, List, ℕ, ◌≤◌, ◌<◌, T, leb, length, get_or, Result, Ok, Err}
use Rattle.std.proofs.Math.Path.{ap}
use Rattle.std.proofs.Common.{◌∙◌, arith, leb→le, lt-ltb, le-ltb}
use Rattle.quantity.specs.declared.Deg.{Deg}
use Rattle.quantity.specs.declared.Refusal.{Refusal}
use Rattle.quantity.specs.rules.Answer.{answered, refused}
use Rattle.quantity.specs.laws.Answer.{number_loses_nothing}
use Rattle.helpers.specs.rules.Circle.{circle_refusal}
use Rattle.list.specs.rules.Stars.{most_stars}
use Rattle.residual_sheet.specs.declared.Sheet.{Sheet}
use Rattle.residual_sheet.specs.notions.Place.{Some, none, some}
use Rattle.residual_sheet.specs.laws.Parts.{some_or_none, is_none, is_some}
use Rattle.residual_sheet.specs.laws.Residuals.{least_accepted}
use Rattle.heading_mean.specs.rules.Reference.{heading_of, reference_place}
use Rattle.heading_mean.specs.rules.Mean.{bits_refusal, number_refusal, headings_refusal, shown_mean, mean_from, mean_in}
use Rattle.heading_mean.specs.notions.Accepted.{Accepted}

-- ---- the number of them

number_some : (n : ℕ) → number_refusal n ≡ 0 → 0 < n
unfolding number_refusal
number_some n e = by_count (some_or_none n)
  where
    by_count : Some n → 0 < n
    by_count (none f) = let g : ◌≡◌ {A = ℕ} 8 0 = rw (is_none f) at e in absurd (omega arith)
    by_count (some h) = h

number_few : (n : ℕ) → number_refusal n ≡ 0 → n ≤ most_stars
unfolding number_refusal
number_few n e = leb→le n most_stars (by_flag (leb n most_stars) (rw (is_some (number_some n e)) at e))
  where
    by_flag : (t : Bool) → cond {A = ℕ} t 0 8 ≡ 0 → T t
    by_flag true e = tt
    by_flag false e = absurd (omega arith)

pub headings_accepted : (headings : List ℕ) → headings_refusal headings ≡ 0 → Accepted headings
unfolding headings_refusal
headings_accepted headings e = by_number (some_or_none (number_refusal (length headings)))
  where
    by_number : Some (number_refusal (length headings)) → Accepted headings
    by_number (none f) =
        record {
          some = number_some (length headings) f;
          few = number_few (length headings) f;
          each = rw (is_none f) at e;
        }
    by_number (some h) = let f : number_refusal (length headings) ≡ 0 = rw (is_some h) at e in absurd (omega arith)

-- ---- each of them

pub each_accepted : (headings : List ℕ) → Accepted headings → (i : ℕ) → i < length headings → circle_refusal (heading_of (get_or headings i 0)) ≡ 0
each_accepted headings a i h = least_accepted bits_refusal headings i h a.each

-- ---- the two ends of the work

module _ (headings : List ℕ) where
  pub with_reference : (i : ℕ) → i ≡ reference_place headings → i < length headings
      → answered (mean_from (heading_of (get_or headings i 0)) headings) ≡ mean_in headings
  unfolding mean_in
  with_reference i e h =
      ap (λ (k : ℕ). answered (mean_from (heading_of (get_or headings k 0)) headings)) e
      ∙ rw (lt-ltb (reference_place headings) (length headings) (omega arith))

  pub without_reference : (i : ℕ) → i ≡ reference_place headings → length headings ≤ i → refused 20 ≡ mean_in headings
  unfolding mean_in
  without_reference i e h = rw (le-ltb (reference_place headings) (length headings) (omega arith))

-- ---- a contract `shown_mean r ≡ rule` holds of one r only

pub shown_mean_loses_nothing : (r s : Result (Deg × Sheet) Refusal) → shown_mean r ≡ shown_mean s → r ≡ s
shown_mean_loses_nothing (Ok (x, s)) (Ok (y, t)) e = cc
shown_mean_loses_nothing (Ok (x, s)) (Err n) e = cc
shown_mean_loses_nothing (Err m) (Ok (y, t)) e = cc
shown_mean_loses_nothing (Err m) (Err n) e = ap Err (number_loses_nothing m n cc)
