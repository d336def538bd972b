-- The whole call: its angles read back from their bits, and its tally.
use Rattle.std.specs.Prelude.{ℕ, ◌<◌, ◌≡◌, List, Float, length, get_or, Result}
use Rattle.double.specs.rules.Operations.{bits}
use Rattle.quantity.specs.declared.Refusal.{Refusal}
use Rattle.list_tally.specs.declared.Tally.{Tally}
use Rattle.edition.specs.declared.Edition.{Edition}
use Rattle.list.specs.rules.Stars.{count_of, nth}
use Rattle.list_tally.specs.rules.Tally.{empty, raised_by}
use Rattle.star_store.specs.rules.Star.{first_of, second_of}
use Rattle.star_store.specs.rules.Stored.{shown_tallied, store_refusal}
use Rattle.star_store.specs.laws.Stored.{accepted}
use Rattle.star_store.specs.laws.Stored as store
use Rattle.batch.specs.rules.Star.{star_rule}
use Rattle.batch.specs.rules.Batch.{statuses_of, Batch}
use Rattle.batch.specs.laws.Star.{status_known}
use Rattle.batch.specs.laws.ReadBack.{held_star}

module _ (edition : Edition) {s : List ℕ} {day1 day2 : Float} {status asc dec : List ℕ} {r : Result Tally Refusal} {status' asc' dec' : List ℕ} (b : Batch edition s day1 day2 status asc dec r status' asc' dec')
    (none : store_refusal s day1 day2 (length status) (length asc) (length dec) ≡ 0) where
  pub asc_read : (i : ℕ) → i < count_of s → bits (get_or asc' i 0) ≡ first_of (star_rule edition (nth s i) day1 day2)
  asc_read = store.asc_read b none (λ star. held_star edition star day1 day2)

  pub dec_read : (i : ℕ) → i < count_of s → bits (get_or dec' i 0) ≡ second_of (star_rule edition (nth s i) day1 day2)
  dec_read = store.dec_read b none (λ star. held_star edition star day1 day2)

  -- the tally is the empty one, raised by each star's status in the list's order
  pub tally_raised : (shown_tallied r).tally ≡ raised_by empty (statuses_of edition s day1 day2)
  tally_raised =
      let days = (accepted s day1 day2 (length status) (length asc) (length dec) none).days in
      store.tally_raised b none (λ star. status_known star day1 day2 days edition)
