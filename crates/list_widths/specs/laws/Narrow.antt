-- A record of before and its bytes say the same, and so do a list of them and its stars.
use Rattle.std.specs.Prelude.{◌≡◌, true, List, [], ◌∷◌, ◌++◌, ℕ, ◌+◌, ◌*◌, ◌/◌, ◌%◌, ◌≤◌, ◌<◌, leb, eqb, ℤ, pos, negsuc, nat_abs, length, get_or}
use Rattle.std.proofs.Math.Path.{refl, ap}
use Rattle.std.proofs.Common.{sym, ◌∙◌, leb-true, eqb-true, le-leb, eq-eqb}
use native.Mathlib.Omega.{arith}
use Rattle.std.proofs.Math.ListN.{drop, get_or-eq_default}
use Rattle.signed.specs.rules.Signed.{signed_of}
use Rattle.signed.specs.laws.Signed.{word_signed, has_word}
use Rattle.lent.specs.laws.Flags.{both_hold}
use Rattle.lent.specs.laws.Upto.{length_upto, get_d_upto}
use Rattle.list.specs.rules.Record.{word_at, word_bytes, words_bytes}
use Rattle.list.specs.rules.Stars.{most_stars, nought, records_at, records_bytes, AllHold, Bytes}
use Rattle.list.specs.notions.Whole.{Kept}
use Rattle.list.specs.notions.Still.{Still}
use Rattle.list.specs.laws.Record.{word_sum, signed_sum, small, words_here, word_drop, word_further}
use Rattle.list.specs.laws.Records.{length_records, records_back, records_here}
use Rattle.list.specs.declared.Star.{Star}
use Rattle.list_widths.specs.rules.Narrow.{narrow_width, narrow_at, narrow_bytes, is_still, is_narrow, narrow_count, narrow_stars}
use Rattle.list_widths.specs.notions.Narrow.{Narrow}

-- ---- one record

pub length_narrow : (r : Star) → length (narrow_bytes r) ≡ narrow_width
unfolding narrow_bytes word_bytes
length_narrow r = refl

size_zero : (z : ℤ) → nat_abs z ≡ 0 → z ≡ pos 0
size_zero (pos n) e = ap pos e
size_zero (negsuc n) e = absurd (omega arith)

pub stands_still : (r : Star) → is_still r ≡ true → Still r
unfolding is_still
stands_still r h =
    let p = both_hold (eqb (nat_abs r.asc_rate) 0) (eqb (nat_abs r.dec_rate) 0) h in
    record {
      asc = size_zero r.asc_rate (eqb-true (nat_abs r.asc_rate) 0 p.0);
      dec = size_zero r.dec_rate (eqb-true (nat_abs r.dec_rate) 0 p.1);
    }

-- a star that stands still, written and read back
narrow_back : (r : Star) (rest : List ℕ) → Narrow r → narrow_at (narrow_bytes r ++ rest) 0 ≡ r
unfolding narrow_at narrow_bytes word_at word_bytes
narrow_back r rest k =
    let n = word_sum r.number k.fitting.number in
    let a = word_sum r.asc k.fitting.asc in
    let d = signed_sum r.dec k.fitting.dec in
    λ i. record { number = n i; asc = a i; dec = d i; asc_rate = sym k.still.asc i; dec_rate = sym k.still.dec i }

-- bytes, read and written back
module _ (s : List ℕ) (y : Bytes s) where
  narrow_holds : Narrow (narrow_at s 0)
  unfolding narrow_at
  narrow_holds =
      record {
        fitting =
            record {
              number = small s y 0;
              asc = small s y 4;
              dec = has_word (word_at s 8) (small s y 8);
              asc_rate = omega arith;
              dec_rate = omega arith;
            };
        still = record { asc = refl; dec = refl };
      }

  narrow_here : narrow_width ≤ length s → narrow_bytes (narrow_at s 0) ++ drop narrow_width s ≡ s
  unfolding narrow_at narrow_bytes
  narrow_here h =
      ap (λ (n : ℕ). words_bytes (word_at s 0 ∷ word_at s 4 ∷ n ∷ []) ++ drop narrow_width s) (word_signed (word_at s 8) (small s y 8))
      ∙ words_here s y 3 0 h

narrow_drop : (k at : ℕ) (s : List ℕ) → narrow_at (drop k s) at ≡ narrow_at s (k + at)
unfolding narrow_at
narrow_drop k at s =
    λ i.
    record {
      number = word_drop k at s i;
      asc = word_further k at 4 s i;
      dec = signed_of (word_further k at 8 s i);
      asc_rate = pos 0;
      dec_rate = pos 0;
    }

-- ---- a list

-- what a list of before is
pub narrow_whole : (s : List ℕ) → is_narrow s ≡ true → (length s ≤ narrow_width * most_stars) × (length s % narrow_width ≡ 0)
unfolding is_narrow
narrow_whole s h =
    let p = both_hold (leb (length s) (narrow_width * most_stars)) (eqb (length s % narrow_width) 0) h in
    (leb-true (length s) (narrow_width * most_stars) p.0, eqb-true (length s % narrow_width) 0 p.1)

module _ (s : List ℕ) where
  pub length_narrow_stars : length (narrow_stars s) ≡ narrow_count s
  unfolding narrow_stars
  length_narrow_stars = length_upto (narrow_count s) (λ (i : ℕ). narrow_at s (i * narrow_width))

  pub narrow_few : is_narrow s ≡ true → narrow_count s ≤ most_stars
  unfolding narrow_count
  narrow_few h = omega (arith, narrow_whole s h)

  pub narrow_nth_past : (i : ℕ) → narrow_count s ≤ i → get_or (narrow_stars s) i nought ≡ nought
  narrow_nth_past i h = get_or-eq_default (narrow_stars s) nought (rw length_narrow_stars h)

  module _ (i : ℕ) (h : i < narrow_count s) where
    pub narrow_nth_is : get_or (narrow_stars s) i nought ≡ narrow_at s (i * narrow_width)
    unfolding narrow_stars
    narrow_nth_is = get_d_upto (narrow_count s) (λ (k : ℕ). narrow_at s (k * narrow_width)) i nought h

    -- its record lies within the list
    pub narrow_inside : i * narrow_width + narrow_width ≤ length s
    unfolding narrow_count
    narrow_inside = omega arith

pub length_narrow_list : (rs : List Star) → length (records_bytes narrow_bytes rs) ≡ narrow_width * length rs
length_narrow_list rs = length_records narrow_width narrow_at narrow_drop narrow_bytes length_narrow rs ∙ omega arith

pub narrow_list : (rs : List Star) → length rs ≤ most_stars → is_narrow (records_bytes narrow_bytes rs) ≡ true
unfolding is_narrow
narrow_list rs h =
    let s = records_bytes narrow_bytes rs in
    let l = length_narrow_list rs in
    rw (le-leb (length s) (narrow_width * most_stars) (omega arith), eq-eqb (length s % narrow_width) 0 (omega arith))

-- stars that stand still, written and read back
pub narrow_stars_back : (rs : List Star) → AllHold Narrow rs → narrow_stars (records_bytes narrow_bytes rs) ≡ rs
unfolding narrow_stars narrow_count
narrow_stars_back rs f =
    let s = records_bytes narrow_bytes rs in
    ap (λ (n : ℕ). records_at narrow_width narrow_at n s) (let e : length s / narrow_width ≡ length rs = omega (arith, length_narrow_list rs) in e)
    ∙ records_back narrow_width narrow_at narrow_drop narrow_bytes length_narrow Narrow narrow_back rs f

-- bytes, whole records of them, read and written back
pub narrow_bytes_back : (s : List ℕ) → length s % narrow_width ≡ 0 → Bytes s → Kept narrow_bytes Narrow (narrow_stars s) s
unfolding narrow_stars narrow_count
narrow_bytes_back s h y =
    records_here narrow_width narrow_at narrow_drop narrow_bytes length_narrow Narrow
    (λ (t : List ℕ) z long. (narrow_here t z long, narrow_holds t z))
    (length s / narrow_width)
    s
    (omega arith)
    y
