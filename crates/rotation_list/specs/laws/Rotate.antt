-- The whole call: its angles read back from their bits, its tally, and that all of it is fixed.
use Rattle.std.specs.Prelude.{ℕ, ◌<◌, ◌≡◌, List, Float, length, get_or, Result}
use Rattle.double.specs.rules.Operations.{bits}
use Rattle.quantity.specs.declared.Refusal.{Refusal}
use Rattle.list_tally.specs.declared.Tally.{Tally}
use Rattle.edition.specs.declared.Edition.{Edition}
use Rattle.list.specs.rules.Stars.{count_of, nth}
use Rattle.list_tally.specs.rules.Tally.{empty, raised_by}
use Rattle.star_place.specs.rules.Place.{years_between}
use Rattle.star_store.specs.rules.Star.{first_of, second_of}
use Rattle.star_store.specs.rules.Stored.{shown_tallied, store_refusal, statuses_by}
use Rattle.star_store.specs.laws.Stored as store
use Rattle.rotation.specs.rules.Turns.{rotation_of}
use Rattle.rotation_list.specs.rules.Rotate.{rotated_on, Rotated}
use Rattle.rotation_list.specs.laws.Star.{known_rotated}
use Rattle.rotation_list.specs.laws.ReadBack.{held_rotated}

module _ (edition : Edition) {s : List ℕ} {day1 day2 : Float} {status asc dec : List ℕ} {r : Result Tally Refusal} {status' asc' dec' : List ℕ} (b : Rotated edition s day1 day2 status asc dec r status' asc' dec') where
  module _ (none : store_refusal s day1 day2 (length status) (length asc) (length dec) ≡ 0) where
    pub asc_read : (i : ℕ) → i < count_of s → bits (get_or asc' i 0) ≡ first_of (rotated_on edition day1 day2 (nth s i))
    asc_read = store.asc_read b none (held_rotated (rotation_of edition day1 day2) (years_between day1 day2))

    pub dec_read : (i : ℕ) → i < count_of s → bits (get_or dec' i 0) ≡ second_of (rotated_on edition day1 day2 (nth s i))
    dec_read = store.dec_read b none (held_rotated (rotation_of edition day1 day2) (years_between day1 day2))

    -- the tally is the empty one, raised by each star's status in the list's order
    pub tally_raised : (shown_tallied r).tally ≡ raised_by empty (statuses_by (rotated_on edition day1 day2) s)
    tally_raised = store.tally_raised b none (known_rotated (rotation_of edition day1 day2) (years_between day1 day2))

  -- two calls that meet the contract answer alike and leave the slices alike
  pub rotate_fixes_all : {q : Result Tally Refusal} {status'' asc'' dec'' : List ℕ} → Rotated edition s day1 day2 status asc dec q status'' asc'' dec''
      → (r ≡ q) × ((status' ≡ status'') × ((asc' ≡ asc'') × (dec' ≡ dec'')))
  rotate_fixes_all = store.stored_fixes_all b
