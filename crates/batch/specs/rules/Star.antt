-- One star of a list: what the chain answers at its shifted place.
use Rattle.std.specs.Prelude.{ℕ, Float}
use Rattle.quantity.specs.declared.Places.{Places}
use Rattle.quantity.specs.declared.Refusal.{Refusal}
use Rattle.quantity.specs.rules.Answer.{Answer, number, Pair, unless, Lanes, named_lanes}
use Rattle.edition.specs.declared.Edition.{Edition}
use Rattle.chain.specs.declared.Night.{Night}
use Rattle.chain.specs.rules.Chain.{chain_rule}
use Rattle.chain.specs.rules.Night.{place_under_by}
use Rattle.chain.specs.rules.Two.{two_places_under_by}
use Rattle.list.specs.declared.Star.{Star}
use Rattle.star_place.specs.rules.Place.{years_between, asc_of, dec_of}
use Rattle.star_store.specs.rules.Star.{star_refusal, earlier}

-- the chain's answer at the star's place, shifted by the years between the days
unfoldable pub star_rule : Edition → Star → Float → Float → Answer Pair
star_rule edition star day1 day2 =
    let years = years_between day1 day2 in
    unless (star_refusal star years) (chain_rule edition (asc_of star years) (dec_of star years) day1 day2)

-- a star's answer under a night whose days are not refused; f numbers the night's refusals
-- the right ascension of a star in range is never refused
unfoldable pub star_under_by : {E : Type 0} → (E → ℕ) → Star → Night E → Float → Answer Pair
star_under_by f star night years = unless (star_refusal star years) (place_under_by f (asc_of star years) (dec_of star years) night)

-- two stars side by side, every float of both fixed whatever is refused; `first_star_by` and `second_star_by` in laws/Star say that each
-- has the place that it has alone
unfoldable pub two_stars_under_by : {E : Type 0} → (E → ℕ) → Star → Star → Night E → Float → Lanes
two_stars_under_by f a b night years =
    let p = two_places_under_by f (asc_of a years) (dec_of a years) (asc_of b years) (dec_of b years) night in
    record {
      first_asc = p.first_asc;
      second_asc = p.second_asc;
      first_dec = p.first_dec;
      second_dec = p.second_dec;
      first_refusal = earlier (star_refusal a years) p.first_refusal;
      second_refusal = earlier (star_refusal b years) p.second_refusal;
    }

-- the answer of a star, and of two side by side, under a night whose refusals are the table's
abbrev pub star_under : Star → Night Refusal → Float → Answer Pair
star_under star night years = star_under_by number star night years

abbrev pub two_stars_under : Star → Star → Night Refusal → Float → Places Refusal
two_stars_under a b night years = named_lanes (two_stars_under_by number a b night years)
