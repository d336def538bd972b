-- An empty place, a record of number 0, goes over the radio link like any other: none is dropped, none added, each stays where it stood; and
-- what is out of range in it is refused as in any other.
use Rattle.std.specs.Prelude.{◌≡◌, Bool, List, ℕ, ◌<◌}
use Rattle.std.proofs.Math.Path.{refl, ap}
use Rattle.std.proofs.Common.{sym, ◌∙◌, arith}
use Rattle.std.proofs.Math.Bool.{true, false, cond}
use Rattle.quantity.specs.rules.Answer.{answered, refused}
use Rattle.quantity.specs.laws.Steps.{same_value, refused_not_answered, changed}
use Rattle.list.specs.rules.Record.{in_range}
use Rattle.list.specs.rules.Stars.{is_list, count_of, stars, nth, list_bytes, all_in_range, Bytes}
use Rattle.list.specs.laws.Stars.{whole, length_stars, few}
use Rattle.list.specs.laws.Records.{one_is_not}
use Rattle.list.specs.laws.RoundTrips.{stars_back, bytes_back}
use Rattle.list_radio.specs.rules.Radio.{radio_bytes, is_moving, radio_stars}
use Rattle.list_radio.specs.laws.Radio.{written_is_read, radio_read_was_spelt}
use Rattle.list_moves.specs.rules.Moves.{to_list, to_radio}
use Rattle.list_moves.specs.laws.RoundTrips.{all_good, fits}

-- the stars after a move are the stars before it, number 0 where it was
module _ (s t : List ℕ) (y : Bytes s) where
  pub empty_places_stay_in_radio : to_radio s ≡ answered t → radio_stars t ≡ answered (stars s)
  unfolding to_radio
  empty_places_stay_in_radio = go (is_list s) (all_in_range (stars s)) refl refl
    where
      go : (a b : Bool) → is_list s ≡ a → all_in_range (stars s) ≡ b
          → cond a (cond b (answered (radio_bytes (stars s))) (refused 9)) (refused 8) ≡ answered t → radio_stars t ≡ answered (stars s)
      go true true l r h =
          let k = bytes_back s (whole s l).1 y in
          ap radio_stars (same_value (sym h))
          ∙ written_is_read (stars s) (all_good (stars s) k.fitting r) (omega (arith, few s l, length_stars s))
      go true false l r h = absurd (refused_not_answered h)
      go false b l r h = absurd (refused_not_answered h)

  pub empty_places_stay_in_list : to_list s ≡ answered t → radio_stars s ≡ answered (stars t)
  unfolding to_list
  empty_places_stay_in_list h =
      let c = changed (radio_stars s) list_bytes t h in
      let l = radio_read_was_spelt s c.value y c.first in
      c.first ∙ ap answered (sym (ap stars c.is ∙ stars_back c.value (fits (is_moving s) c.value l.good)))

-- a record is refused whatever its number
pub any_record_out_of_range_moved : (s : List ℕ) (i : ℕ) → is_list s ≡ true → i < count_of s → in_range (nth s i) ≡ false → to_radio s ≡ refused 9
unfolding to_radio
any_record_out_of_range_moved s i l h e = rw (l, one_is_not in_range (stars s) i (omega (arith, length_stars s)) e)
