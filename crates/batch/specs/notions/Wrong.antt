-- Wrong variants of a star's answer.
use Rattle.std.specs.Prelude.{Float}
use Rattle.quantity.specs.declared.Places.{Places}
use Rattle.quantity.specs.declared.Refusal.{Refusal}
use Rattle.quantity.specs.rules.Angle.{rad}
use Rattle.quantity.specs.rules.Answer.{Answer, Pair, first, second, unless, then, second_place}
use Rattle.precess.specs.rules.Equatorial.{precessed_in}
use Rattle.chain.specs.declared.Night.{Night}
use Rattle.chain.specs.rules.Night.{point_under, place_under}
use Rattle.list.specs.declared.Star.{Star}
use Rattle.star_place.specs.rules.Place.{angle_of, record_asc, record_dec, shifted, asc_of, dec_of}
use Rattle.star_store.specs.rules.Star.{star_refusal}

-- the precessed place shifted, in place of the record's
abbrev pub shifted_after_precession : Star → Night Refusal → Float → Answer Pair
shifted_after_precession star night years =
    unless (star_refusal star years)
    (then (precessed_in (record_asc star) (record_dec star) night.precession)
    (λ (p : Pair).
    point_under
    (record {
      asc = (shifted (rad (first p)) (angle_of star.asc_rate) years).0;
      dec = (shifted (rad (second p)) (angle_of star.dec_rate) years).0;
    })
    night))

-- the chain shifts as well
abbrev pub shifted_twice : Star → Night Refusal → Float → Answer Pair
shifted_twice star night years =
    unless (star_refusal star years)
    (place_under (shifted (asc_of star years) (angle_of star.asc_rate) years) (shifted (dec_of star years) (angle_of star.dec_rate) years) night)

-- the second star's place for the first's
abbrev pub lanes_traded : Places Refusal → Answer Pair
lanes_traded = second_place
