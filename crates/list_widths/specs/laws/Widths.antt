-- What each move answers, case by case; the two undo each other; and 17 is for a yearly change that is not zero, and for nothing else.
use Rattle.std.specs.Prelude.{◌≡◌, Bool, List, [], ◌∷◌, ℕ, ◌*◌, ◌≤◌, length}
use Rattle.std.proofs.Math.Path.{refl}
use Rattle.std.proofs.Common.{sym, ap, ◌∙◌, arith}
use Rattle.std.proofs.Math.Bool.{true, false, cond}
use Rattle.quantity.specs.rules.Answer.{answered, refused}
use Rattle.quantity.specs.laws.Steps.{same_number, refused_not_answered}
use Rattle.lent.specs.rules.Texts.{texts}
use Rattle.lent.specs.laws.Flags.{both_hold}
use Rattle.list.specs.rules.Record.{width, star_bytes}
use Rattle.list.specs.rules.Stars.{most_stars, is_list, count_of, stars, records_bytes, list_bytes, all_are, all_in_range, AllHold, AllFitting, Bytes}
use Rattle.list.specs.notions.Moves.{ThereAndBack}
use Rattle.list.specs.laws.Stars.{whole, length_stars, few}
use Rattle.list.specs.laws.Records.{texts_records}
use Rattle.list.specs.laws.RoundTrips.{is_list_lem, length_list, stars_back, bytes_back}
use Rattle.list.specs.declared.Star.{Star}
use Rattle.list_widths.specs.rules.Narrow.{narrow_width, narrow_bytes, is_still, is_narrow, narrow_count, narrow_stars}
use Rattle.list_widths.specs.rules.Widths.{to_wide, to_narrow, wide_record, narrow_record}
use Rattle.list_widths.specs.notions.Narrow.{Narrow}
use Rattle.list_widths.specs.laws.Narrow.{stands_still, narrow_whole, length_narrow_stars, narrow_few, length_narrow_list, narrow_list, narrow_stars_back, narrow_bytes_back}

-- ---- case by case

module _ (s : List ℕ) where
  pub no_narrow_list : is_narrow s ≡ false → to_wide s ≡ refused 8
  unfolding to_wide
  no_narrow_list e = rw e

  pub narrow_out_of_range : is_narrow s ≡ true → all_in_range (narrow_stars s) ≡ false → to_wide s ≡ refused 9
  unfolding to_wide
  narrow_out_of_range e f = rw (e, f)

  pub moves_up : is_narrow s ≡ true → all_in_range (narrow_stars s) ≡ true → to_wide s ≡ answered (list_bytes (narrow_stars s))
  unfolding to_wide
  moves_up e f = rw (e, f)

  pub no_list : is_list s ≡ false → to_narrow s ≡ refused 8
  unfolding to_narrow
  no_list e = rw e

  pub out_of_range : is_list s ≡ true → all_in_range (stars s) ≡ false → to_narrow s ≡ refused 9
  unfolding to_narrow
  out_of_range e f = rw (e, f)

  pub moving : is_list s ≡ true → all_in_range (stars s) ≡ true → all_are is_still (stars s) ≡ false → to_narrow s ≡ refused 17
  unfolding to_narrow
  moving e f g = rw (e, f, g)

  pub moves_down : is_list s ≡ true → all_in_range (stars s) ≡ true → all_are is_still (stars s) ≡ true
      → to_narrow s ≡ answered (records_bytes narrow_bytes (stars s))
  unfolding to_narrow
  moves_down e f g = rw (e, f, g)

  -- ---- the records that a pass writes, one after the other

  pub records_up : (n : ℕ) → n ≡ narrow_count s → texts n (wide_record s) ≡ list_bytes (narrow_stars s)
  records_up n e = ap (λ (k : ℕ). texts k (wide_record s)) (e ∙ sym (length_narrow_stars s)) ∙ texts_records star_bytes (narrow_stars s)

  pub records_down : (n : ℕ) → n ≡ count_of s → texts n (narrow_record s) ≡ records_bytes narrow_bytes (stars s)
  records_down n e = ap (λ (k : ℕ). texts k (narrow_record s)) (e ∙ sym (length_stars s)) ∙ texts_records narrow_bytes (stars s)

  pub length_up : (n : ℕ) → n ≡ narrow_count s → length (list_bytes (narrow_stars s)) ≡ n * width
  length_up n e = omega (arith, length_list (narrow_stars s), length_narrow_stars s)

  pub length_down : (n : ℕ) → n ≡ count_of s → length (records_bytes narrow_bytes (stars s)) ≡ n * narrow_width
  length_down n e = omega (arith, length_narrow_list (stars s), length_stars s)

-- ---- stars that stand still

pub fitting : (rs : List Star) → AllHold Narrow rs → AllFitting rs
fitting [] f = tt
fitting (r ∷ rs) f = (f.0.fitting, fitting rs f.1)

all_still : (rs : List Star) → AllHold Narrow rs → all_are is_still rs ≡ true
unfolding is_still
all_still [] f = refl
all_still (r ∷ rs) f = rw (f.0.still.asc, f.0.still.dec) (all_still rs f.1)

pub all_narrow : (rs : List Star) → AllFitting rs → all_are is_still rs ≡ true → AllHold Narrow rs
all_narrow [] f h = tt
all_narrow (r ∷ rs) f h =
    let p = both_hold (is_still r) (all_are is_still rs) h in
    (record { fitting = f.0; still = stands_still r p.0 }, all_narrow rs f.1 p.1)

-- ---- there and back

module _ (s : List ℕ) (y : Bytes s) where
  -- any list of before with all records in range moves up, and back down to the same bytes
  pub up_and_down : is_narrow s ≡ true → all_in_range (narrow_stars s) ≡ true → ThereAndBack to_wide to_narrow s
  up_and_down l r =
      let rs = narrow_stars s in
      let k = narrow_bytes_back s (narrow_whole s l).1 y in
      let f = fitting rs k.fitting in
      let e = stars_back rs f in
      let many : length rs ≤ most_stars = omega (arith, length_narrow_stars s, narrow_few s l) in
      record {
        moved = list_bytes rs;
        goes = moves_up s l r;
        returns =
            moves_down (list_bytes rs) (is_list_lem rs many) (ap all_in_range e ∙ r) (ap (all_are is_still) e ∙ all_still rs k.fitting)
            ∙ ap answered (ap (records_bytes narrow_bytes) e ∙ k.bytes);
      }

  -- any list that moves down comes back up to the same bytes
  pub down_and_up : is_list s ≡ true → all_in_range (stars s) ≡ true → all_are is_still (stars s) ≡ true → ThereAndBack to_narrow to_wide s
  down_and_up l r t =
      let rs = stars s in
      let k = bytes_back s (whole s l).1 y in
      let e = narrow_stars_back rs (all_narrow rs k.fitting t) in
      let many : length rs ≤ most_stars = omega (arith, length_stars s, few s l) in
      record {
        moved = records_bytes narrow_bytes rs;
        goes = moves_down s l r t;
        returns =
            moves_up (records_bytes narrow_bytes rs) (narrow_list rs many) (ap all_in_range e ∙ r) ∙ ap answered (ap list_bytes e ∙ k.bytes);
      }

-- ---- 17, both ways: of a list, with all records in range, and a yearly change that is not zero

module _ (s : List ℕ) where
  pub seventeen_is_for_moving : to_narrow s ≡ refused 17
      → (is_list s ≡ true) × ((all_in_range (stars s) ≡ true) × (all_are is_still (stars s) ≡ false))
  unfolding to_narrow
  seventeen_is_for_moving = go (is_list s) (all_in_range (stars s)) (all_are is_still (stars s)) refl refl refl
    where
      go : (a b c : Bool) → is_list s ≡ a → all_in_range (stars s) ≡ b → all_are is_still (stars s) ≡ c
          → cond a (cond b (cond c (answered (records_bytes narrow_bytes (stars s))) (refused 17)) (refused 9)) (refused 8) ≡ refused 17
          → (is_list s ≡ true) × ((all_in_range (stars s) ≡ true) × (all_are is_still (stars s) ≡ false))
      go true true false d e f h = (d, (e, f))
      go true true true d e f h = absurd (refused_not_answered (sym h))
      go true false c d e f h = absurd (let n : 9 ≡ 17 = same_number h in omega arith)
      go false b c d e f h = absurd (let n : 8 ≡ 17 = same_number h in omega arith)
