-- An empty place, a record of number 0, is moved like any other: none is dropped, none added, each stays where it stood; and what is out of
-- range in it, or changes yearly, is refused as in any other.
use Rattle.std.specs.Prelude.{◌≡◌, Bool, List, ℕ, ◌<◌, get_or}
use Rattle.std.proofs.Math.Path.{refl, ap}
use Rattle.std.proofs.Common.{sym, ◌∙◌, arith}
use Rattle.std.proofs.Math.Bool.{true, false, cond}
use Rattle.quantity.specs.rules.Answer.{answered, refused}
use Rattle.quantity.specs.laws.Steps.{same_value, refused_not_answered}
use Rattle.list.specs.rules.Record.{in_range}
use Rattle.list.specs.rules.Stars.{is_list, count_of, stars, nth, nought, records_bytes, list_bytes, all_are, all_in_range, Bytes}
use Rattle.list.specs.laws.Stars.{whole, length_stars}
use Rattle.list.specs.laws.Records.{one_is_not}
use Rattle.list.specs.laws.RoundTrips.{stars_back, bytes_back}
use Rattle.list_widths.specs.rules.Narrow.{narrow_bytes, is_still, is_narrow, narrow_count, narrow_stars}
use Rattle.list_widths.specs.rules.Widths.{to_wide, to_narrow}
use Rattle.list_widths.specs.laws.Narrow.{narrow_whole, length_narrow_stars, narrow_stars_back, narrow_bytes_back}
use Rattle.list_widths.specs.laws.Widths.{narrow_out_of_range, out_of_range, moving, fitting, all_narrow}

-- the stars after a move are the stars before it, number 0 where it was
module _ (s t : List ℕ) (y : Bytes s) where
  pub empty_places_stay_up : to_wide s ≡ answered t → stars t ≡ narrow_stars s
  unfolding to_wide
  empty_places_stay_up = go (is_narrow s) (all_in_range (narrow_stars s)) refl
    where
      go : (a b : Bool) → is_narrow s ≡ a → cond a (cond b (answered (list_bytes (narrow_stars s))) (refused 9)) (refused 8) ≡ answered t
          → stars t ≡ narrow_stars s
      go true true l h =
          let k = narrow_bytes_back s (narrow_whole s l).1 y in
          ap stars (same_value (sym h)) ∙ stars_back (narrow_stars s) (fitting (narrow_stars s) k.fitting)
      go true false l h = absurd (refused_not_answered h)
      go false b l h = absurd (refused_not_answered h)

  pub empty_places_stay_down : to_narrow s ≡ answered t → narrow_stars t ≡ stars s
  unfolding to_narrow
  empty_places_stay_down = go (is_list s) (all_in_range (stars s)) (all_are is_still (stars s)) refl refl
    where
      go : (a b c : Bool) → is_list s ≡ a → all_are is_still (stars s) ≡ c
          → cond a (cond b (cond c (answered (records_bytes narrow_bytes (stars s))) (refused 17)) (refused 9)) (refused 8) ≡ answered t
          → narrow_stars t ≡ stars s
      go true true true l still h =
          let k = bytes_back s (whole s l).1 y in
          ap narrow_stars (same_value (sym h)) ∙ narrow_stars_back (stars s) (all_narrow (stars s) k.fitting still)
      go true true false l still h = absurd (refused_not_answered h)
      go true false c l still h = absurd (refused_not_answered h)
      go false b c l still h = absurd (refused_not_answered h)

-- a record is refused whatever its number
module _ (s : List ℕ) (i : ℕ) where
  pub any_record_out_of_range_up : is_narrow s ≡ true → i < narrow_count s → in_range (get_or (narrow_stars s) i nought) ≡ false → to_wide s ≡ refused 9
  any_record_out_of_range_up l h e =
      narrow_out_of_range s l (one_is_not in_range (narrow_stars s) i (omega (arith, length_narrow_stars s)) e)

  module _ (l : is_list s ≡ true) (h : i < count_of s) where
    pub any_record_out_of_range_down : in_range (nth s i) ≡ false → to_narrow s ≡ refused 9
    any_record_out_of_range_down e = out_of_range s l (one_is_not in_range (stars s) i (omega (arith, length_stars s)) e)

    pub any_record_moving_down : all_in_range (stars s) ≡ true → is_still (nth s i) ≡ false → to_narrow s ≡ refused 17
    any_record_moving_down r e = moving s l r (one_is_not is_still (stars s) i (omega (arith, length_stars s)) e)
