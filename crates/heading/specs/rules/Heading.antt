-- A star's heading from its record: its place as the batch has it, under the apparent sidereal time of the day of the sight.
use Rattle.std.specs.Prelude.{ℕ, ℤ, Float}
use Rattle.quantity.specs.declared.Rad.{Rad}
use Rattle.quantity.specs.rules.Angle.{rad}
use Rattle.quantity.specs.rules.Answer.{Answer, Pair, first, second, Triple, unless, then}
use Rattle.quantity.specs.rules.Refusal.{lower, angle_refusal, latitude_refusal}
use Rattle.edition.specs.declared.Edition.{Edition}
use Rattle.precess_angles.specs.rules.Days.{days_refusal}
use Rattle.list.specs.declared.Star.{Star}
use Rattle.chain.specs.rules.Night.{night_of}
use Rattle.star_place.specs.rules.Place.{years_between}
use Rattle.batch.specs.rules.Star.{star_rule, star_under}
use Rattle.sidereal.specs.rules.Apparent.{apparent_of}
use Rattle.heading.specs.rules.Sky.{sky_under}

-- a record of which the number counts for nothing: it is no empty place
abbrev pub record_of : ℕ → ℤ → ℤ → ℤ → Star
record_of asc dec ascRate decRate = record { number = 1; asc = asc; dec = dec; asc_rate = ascRate; dec_rate = decRate }

-- 1; 2 for the days; 3 for the observer's longitude and latitude
unfoldable pub heading_refusal : Float → Float → Rad → Rad → ℕ
heading_refusal day1 day2 long lat = lower (days_refusal day1 day2) (lower (angle_refusal long) (latitude_refusal lat))

-- of the star's reduced place
unfoldable pub heading_in : Edition → Star → Float → Float → Rad → Rad → Answer Triple
heading_in edition star day1 day2 long lat =
    then (star_rule edition star day1 day2) (λ (p : Pair). sky_under (apparent_of day2) (rad (first p)) (rad (second p)) long lat)

-- the same by the night of two days, which are not refused: `heading_under_a_night` in laws/Night
unfoldable pub heading_under : Edition → Star → Float → Float → Rad → Rad → Answer Triple
heading_under edition star day1 day2 long lat =
    then (star_under star (night_of edition day1 day2) (years_between day1 day2))
    (λ (p : Pair). sky_under (apparent_of day2) (rad (first p)) (rad (second p)) long lat)

unfoldable pub heading_rule : Edition → ℕ → ℤ → ℤ → ℤ → Float → Float → Rad → Rad → Answer Triple
heading_rule edition asc dec ascRate decRate day1 day2 long lat =
    unless (heading_refusal day1 day2 long lat) (heading_in edition (record_of asc dec ascRate decRate) day1 day2 long lat)
