-- A star under the night of two days that are not refused is answered as the chain answers it at its shifted place, alone or beside
-- another; where it does not move, at the place of its record.
use Rattle.std.specs.Prelude.{ℕ, ◌≤◌, ◌≡◌, Bool, List, T, eqb, pos, Float}
use Rattle.std.proofs.Math.Path.{refl, sym, ap}
use Rattle.std.proofs.Common.{◌∙◌, eqb→eq}
use Rattle.std.proofs.Math.Bool.{true, false, cond}
use Rattle.quantity.specs.rules.Answer.{answered, refused, number, pair, unless, status_of, Lanes, first_answer, second_answer, first_place, second_place}
use Rattle.edition.specs.declared.Edition.{Edition}
use Rattle.precess_angles.specs.rules.Days.{days_refusal, place_refusal}
use Rattle.quantity.specs.declared.Refusal.{Refusal}
use Rattle.chain.specs.declared.Night.{Night}
use Rattle.chain.specs.rules.Chain.{chain_rule}
use Rattle.chain.specs.rules.Night.{night_of, place_under}
use Rattle.chain.specs.rules.Two.{two_places_under_by}
use Rattle.chain.specs.laws.Night.{chain_under_a_night}
use Rattle.chain.specs.laws.Two.{first_under_by, second_under_by, first_refusal_named, second_refusal_named}
use Rattle.list_tally.specs.rules.Status.{highest_status}
use Rattle.list.specs.declared.Star.{Star}
use Rattle.list.specs.rules.Record.{in_range}
use Rattle.list.specs.rules.Stars.{is_kept}
use Rattle.star_place.specs.rules.Place.{years_between, record_asc, record_dec, asc_of, dec_of}
use Rattle.star_place.specs.laws.ZeroRates.{asc_stays, dec_stays}
use Rattle.star_store.specs.rules.Star.{star_refusal}
use Rattle.star_store.specs.rules.Stored.{answers_by}
use Rattle.star_store.specs.laws.Star.{earlier_named, star_named, in_its_lane, out_of_range, years_near, place_accepted, still_not_refused}
use Rattle.batch.specs.rules.Batch.{answers_of}
use Rattle.batch.specs.rules.Star.{star_rule, star_under_by, star_under, two_stars_under_by, two_stars_under}
use Rattle.batch.specs.notions.Under.{under}
use Rattle.batch.specs.laws.Known.{known_under}

-- ---- side by side

-- each of two stars side by side has the place that it has alone, under a night whose refusals f numbers
module _ {E : Type 0} (f : E → ℕ) (a b : Star) (night : Night E) (years : Float) where
  pub first_star_by : first_answer (two_stars_under_by f a b night years) ≡ star_under_by f a night years
  unfolding two_stars_under_by star_under_by
  first_star_by =
      let p = two_places_under_by f (asc_of a years) (dec_of a years) (asc_of b years) (dec_of b years) night in
      in_its_lane a years p.first_refusal (pair p.first_asc p.first_dec) _
      (first_under_by f (asc_of a years) (dec_of a years) (asc_of b years) (dec_of b years) night)

  pub second_star_by : second_answer (two_stars_under_by f a b night years) ≡ star_under_by f b night years
  unfolding two_stars_under_by star_under_by
  second_star_by =
      let p = two_places_under_by f (asc_of a years) (dec_of a years) (asc_of b years) (dec_of b years) night in
      in_its_lane b years p.second_refusal (pair p.second_asc p.second_dec) _
      (second_under_by f (asc_of a years) (dec_of a years) (asc_of b years) (dec_of b years) night)

-- each of two stars side by side has the place that it has alone, under a night whose refusals are the table's
module _ (a b : Star) (night : Night Refusal) (years : Float) where
  abbrev lanes : Lanes
  lanes = two_stars_under_by number a b night years

  pub first_star : first_place (two_stars_under a b night years) ≡ star_under a night years
  unfolding two_stars_under_by
  first_star =
      ap (λ (n : ℕ). unless n (answered (pair lanes.first_asc lanes.first_dec)))
      (earlier_named (star_refusal a years) _ (star_named a years)
      (first_refusal_named (asc_of a years) (dec_of a years) (asc_of b years) (dec_of b years) night))
      ∙ first_star_by number a b night years

  pub second_star : second_place (two_stars_under a b night years) ≡ star_under b night years
  unfolding two_stars_under_by
  second_star =
      ap (λ (n : ℕ). unless n (answered (pair lanes.second_asc lanes.second_dec)))
      (earlier_named (star_refusal b years) _ (star_named b years)
      (second_refusal_named (asc_of a years) (dec_of a years) (asc_of b years) (dec_of b years) night))
      ∙ second_star_by number a b night years

-- so a star has one place, whatever star it stands beside and on whichever side
pub beside_any_star_by : {E : Type 0} (f : E → ℕ) (star a b : Star) (night : Night E) (years : Float)
    → first_answer (two_stars_under_by f star a night years) ≡ second_answer (two_stars_under_by f b star night years)
beside_any_star_by f star a b night years = first_star_by f star a night years ∙ sym (second_star_by f b star night years)

pub beside_any_star : (star a b : Star) (night : Night Refusal) (years : Float)
    → first_place (two_stars_under star a night years) ≡ second_place (two_stars_under b star night years)
beside_any_star star a b night years = first_star star a night years ∙ sym (second_star b star night years)

-- ---- its answer

pub star_out_of_range : (edition : Edition) (star : Star) (day1 day2 : Float) → is_kept star ≡ true → in_range star ≡ false
    → star_rule edition star day1 day2 ≡ refused 9
unfolding star_rule
star_out_of_range edition star day1 day2 k e = rw (out_of_range star (years_between day1 day2) k e)

module _ (star : Star) (day1 day2 : Float) (days : days_refusal day1 day2 ≡ 0) where
  abbrev years : Float
  years = years_between day1 day2

  -- nothing is refused at first where the star is not
  pub place_taken : star_refusal star years ≡ 0 → place_refusal (asc_of star years) (dec_of star years) day1 day2 ≡ 0
  place_taken e =
      let a = place_accepted star day1 day2 days e in
      rw (a.0, a.1, days)

  pub star_under_a_night : (edition : Edition) → star_under star (night_of edition day1 day2) years ≡ star_rule edition star day1 day2
  unfolding star_under_by star_rule
  star_under_a_night edition = by_case (eqb (star_refusal star years) 0) (eqb→eq (star_refusal star years) 0)
    where
      by_case : (b : Bool) → (T b → star_refusal star years ≡ 0)
          → cond b (place_under (asc_of star years) (dec_of star years) (night_of edition day1 day2)) (refused (star_refusal star years))
          ≡ cond b (chain_rule edition (asc_of star years) (dec_of star years) day1 day2) (refused (star_refusal star years))
      by_case true e =
          ap (λ (n : ℕ). unless n (place_under (asc_of star years) (dec_of star years) (night_of edition day1 day2))) (sym (place_taken (e tt)))
          ∙ sym (chain_under_a_night edition (asc_of star years) (dec_of star years) day1 day2)
      by_case false e = refl

  -- so its status is one that the tally knows
  pub status_known : (edition : Edition) → status_of (star_rule edition star day1 day2) ≤ highest_status
  status_known edition = rw (star_under_a_night edition) at (known_under edition star day1 day2 years)

  -- a kept star in range that does not move has the chain's answer where its record has it
  pub star_that_stays : is_kept star ≡ true → in_range star ≡ true → star.asc_rate ≡ pos 0 → star.dec_rate ≡ pos 0 → (edition : Edition)
      → star_rule edition star day1 day2 ≡ chain_rule edition (record_asc star) (record_dec star) day1 day2
  unfolding star_rule
  star_that_stays k r a d edition =
      let near = (years_near day1 day2 days).finite in
      let asc = asc_stays star r years near a in
      let dec = dec_stays star r years near d in
      ap (λ (n : ℕ). unless n (chain_rule edition (asc_of star years) (dec_of star years) day1 day2)) (still_not_refused star day1 day2 days k r d)
      ∙ (λ j. chain_rule edition (asc j) (dec j) day1 day2)

-- all stars of a list are answered so
pub answers_under_a_night : (edition : Edition) (s : List ℕ) (day1 day2 : Float) → days_refusal day1 day2 ≡ 0 → {night : Night Refusal} {years : Float}
    → night ≡ night_of edition day1 day2 → years ≡ years_between day1 day2 → answers_by (under night years) s ≡ answers_of edition s day1 day2
answers_under_a_night edition s day1 day2 days {night} {years} n y =
    (λ j. answers_by (under (n j) (y j)) s) ∙ (λ j. answers_by (λ (star : Star). star_under_a_night star day1 day2 days edition j) s)
