-- The accident cannot happen: what holds in the sky holds of every answer that meets the promise of `heading`, at the star's reduced place and
-- its hour angle.
use Rattle.std.specs.Prelude.{◌≡◌, ◌⊎◌, true, false, ℕ, T, ℤ, Float, Result, Ok}
use Rattle.std.proofs.Common.{sym, ap, subst, ◌∙◌}
use Rattle.std.specs.Float.Ieee.{neg, lt}
use Rattle.double.specs.rules.Operations.{zero, ◌⊕◌}
use Rattle.double.specs.rules.Sign.{bears_minus}
use Rattle.double.specs.rules.Order.{◌≼◌, Finite, Between}
use Rattle.quantity.specs.declared.Refusal.{Refusal}
use Rattle.quantity.specs.declared.Rad.{Rad}
use Rattle.quantity.specs.rules.Angle.{rad}
use Rattle.quantity.specs.rules.Answer.{answered, Pair, first, second, Triple, triple, shown_three}
use Rattle.quantity.specs.laws.Steps.{stepped, same_value}
use Rattle.edition.specs.declared.Edition.{Edition}
use Rattle.elementary.specs.rules.Sine.{sine_of}
use Rattle.quantity.specs.laws.Accepted.{answered_unless}
use Rattle.helpers.specs.rules.Angle.{turn_in_degrees}
use Rattle.coords.specs.rules.HourAngle.{observer_long_refusal, hr_angl_frm_observer_long, hr_angl_frm_observer_long_rule}
use Rattle.coords.specs.rules.Horizon.{southward}
use Rattle.list.specs.declared.Star.{Star}
use Rattle.batch.specs.rules.Star.{star_rule}
use Rattle.sidereal.specs.rules.Apparent.{apparent_of}
use Rattle.helpers.specs.rules.Circle.{half_turn}
use Rattle.heading.specs.rules.Sky.{sky_in, sky_under}
use Rattle.heading.specs.rules.Heading.{record_of, heading_refusal, heading_in, heading_rule}
use Rattle.domain_heading.specs.notions.Circle.{IsHeading, east, west}
use Rattle.domain_heading.specs.notions.Heading.{hour_angle, Sighted}
use Rattle.domain_heading.specs.laws.Sky.{sky_heading_within, sky_azimuth_between, sky_altitude_between, sky_heading_turned, sky_west, sky_east}
use Rattle.domain_heading.specs.laws.Sky.{sky_south, sky_north}

-- ---- the steps that led to an answer

under_answered : (sidereal asc dec long lat : Rad) (t : Triple) → sky_under sidereal asc dec long lat ≡ answered t
    → sky_in (hr_angl_frm_observer_long sidereal long asc) dec lat ≡ answered t
unfolding sky_under
under_answered sidereal asc dec long lat t e =
    let s = stepped (hr_angl_frm_observer_long_rule sidereal long asc) (λ (h : Rad). sky_in h dec lat) t e in
    let u = answered_unless (observer_long_refusal sidereal long asc) (answered (hr_angl_frm_observer_long sidereal long asc)) s.value s.first in
    subst (λ (h : Rad). sky_in h dec lat ≡ answered t) (sym (same_value u.1)) s.next

sighted_in : (edition : Edition) (star : Star) (day1 day2 : Float) (long lat : Rad) (t : Triple)
    → heading_in edition star day1 day2 long lat ≡ answered t → Sighted edition star day1 day2 long lat t
unfolding heading_in
sighted_in edition star day1 day2 long lat t e =
    let s =
    stepped (star_rule edition star day1 day2) (λ (p : Pair). sky_under (apparent_of day2) (rad (first p)) (rad (second p)) long lat) t e
    in
    record {
      place = s.value;
      placed = s.first;
      seen = under_answered (apparent_of day2) (rad (first s.value)) (rad (second s.value)) long lat t s.next;
    }

pub sighted : (edition : Edition) (asc : ℕ) (dec ascRate decRate : ℤ) (day1 day2 : Float) (long lat : Rad) (t : Triple)
    → heading_rule edition asc dec ascRate decRate day1 day2 long lat ≡ answered t
    → Sighted edition (record_of asc dec ascRate decRate) day1 day2 long lat t
unfolding heading_rule
sighted edition asc dec ascRate decRate day1 day2 long lat t e =
    let star = record_of asc dec ascRate decRate in
    sighted_in edition star day1 day2 long lat t
    (answered_unless (heading_refusal day1 day2 long lat) (heading_in edition star day1 day2 long lat) t e).1

-- ---- a function answers the heading x, the azimuth z and the altitude a

module _ (edition : Edition) (asc : ℕ) (dec ascRate decRate : ℤ) (day1 day2 : Float) (long lat : Rad) (r : Result (Float × Float × Float) Refusal) (x z a : Float) (meets : shown_three r ≡ heading_rule edition asc dec ascRate decRate day1 day2 long lat) (is : r ≡ Ok (x, z, a)) where
  pub of_a_sight : Sighted edition (record_of asc dec ascRate decRate) day1 day2 long lat (triple x z a)
  of_a_sight = sighted edition asc dec ascRate decRate day1 day2 long lat (triple x z a) (sym meets ∙ ap shown_three is)

  -- the star's hour angle and its declination on the day of the sight
  abbrev pub hour : Rad
  hour = hour_angle of_a_sight.place day2 long

  abbrev pub dec_there : Rad
  dec_there = rad (second of_a_sight.place)

  -- from 0 to below 360
  pub heading_within : IsHeading x
  heading_within = sky_heading_within hour dec_there lat x z a of_a_sight.seen

  pub heading_finite : Finite x × Finite z × Finite a
  heading_finite =
      (heading_within.finite, (sky_azimuth_between hour dec_there lat x z a of_a_sight.seen).finite, (sky_altitude_between hour dec_there lat x z a of_a_sight.seen).finite)

  pub heading_azimuth_between : Between (neg half_turn) half_turn z
  heading_azimuth_between = sky_azimuth_between hour dec_there lat x z a of_a_sight.seen

  pub heading_altitude_between : Between (neg east) east a
  heading_altitude_between = sky_altitude_between hour dec_there lat x z a of_a_sight.seen

  -- half a turn from the azimuth, rounded once; a whole turn is 0
  pub heading_turned : (x ≡ z ⊕ half_turn) ⊎ ((z ⊕ half_turn ≡ turn_in_degrees) × (x ≡ zero))
  heading_turned = sky_heading_turned hour dec_there lat x z a of_a_sight.seen

  -- the sine of the hour angle is above zero: from 180 on, or 0, on the meridian in the north
  pub heading_west : T (lt zero (sine_of hour)) → (half_turn ≼ x) ⊎ (x ≡ zero)
  heading_west = sky_west hour dec_there lat x z a of_a_sight.seen

  -- below zero: at most 180
  pub heading_east : T (lt (sine_of hour) zero) → x ≼ half_turn
  heading_east = sky_east hour dec_there lat x z a of_a_sight.seen

  -- the azimuth's second argument bears no minus sign: from 90 to 270
  pub heading_south : bears_minus (southward hour dec_there lat) ≡ false → Between east west x
  heading_south = sky_south hour dec_there lat x z a of_a_sight.seen

  -- it bears one: at most 90, or from 270 on
  pub heading_north : bears_minus (southward hour dec_there lat) ≡ true → (x ≼ east) ⊎ (west ≼ x)
  heading_north = sky_north hour dec_there lat x z a of_a_sight.seen
