-- A star that was answered in the sky: its heading lies on the circle, in the half that the sine of the hour angle has, and in the half that the
-- azimuth's second argument has; it is the azimuth and half a turn, rounded once; and all three numbers are finite.
use Rattle.std.specs.Prelude.{◌≡◌, refl, ◌⊎◌, Bool, true, false, ℕ, ◌*◌, ◌<◌, T, Float}
use Rattle.std.proofs.Common.{sym, arith, ltb→lt}
use Rattle.std.proofs.Math.Path.{subst}
use Rattle.std.specs.Float.{nan, inf, fin}
use Rattle.std.specs.Float.Ieee.{up, down, binary64, neg, mul, le, lt, of_bits}
use Rattle.double.specs.rules.Operations.{zero, ◌⊕◌}
use Rattle.double.specs.rules.Sign.{bears_minus, size, is_finite}
use Rattle.double.specs.rules.Order.{◌≼◌, Between}
use Rattle.double.specs.notions.Range.{known, con, ◌⊠◌}
use Rattle.double.specs.laws.Between.{size→between}
use Rattle.double.specs.laws.Interval.{bounded}
use Rattle.quantity.specs.declared.Rad.{Rad}
use Rattle.quantity.specs.rules.Angle.{PI, HALF}
use Rattle.quantity.specs.rules.Answer.{answered, triple}
use Rattle.quantity.specs.laws.Steps.{stepped, same_value}
use Rattle.units.specs.rules.Degrees.{degrees_of_radian, to_degrees}
use Rattle.elementary.specs.rules.Sine.{sine_of}
use Rattle.helpers.specs.rules.Angle.{turn_in_degrees}
use Rattle.coords.specs.rules.Horizon.{southward, az_frm_eq_rule, alt_frm_eq_rule}
use Rattle.helpers.specs.rules.Circle.{half_turn}
use Rattle.heading.specs.rules.Sky.{northward, bearings, sky_from, sky_in}
use Rattle.conditions.specs.laws.Azimuth.{azimuth_sign, azimuth_at_most_quarter_turn, azimuth_at_least_quarter_turn, azimuth_at_most_half_turn}
use Rattle.domain.specs.laws.Frames.{alt_frm_eq_at_most_quarter_turn}
use Rattle.domain_heading.specs.notions.Circle.{IsHeading, east, west}
use Rattle.domain_heading.specs.notions.Sky.{InSky}
use Rattle.domain_heading.specs.laws.Turn.{degrees_between, turned_cases, turned_within, turned_west, turned_east, turned_south, turned_north}

-- what was answered came of an azimuth and an altitude
pub in_sky : (h d p : Rad) (x z a : Float) → sky_in h d p ≡ answered (triple x z a) → InSky h d p x z a
unfolding sky_in sky_from bearings
in_sky h d p x z a e =
    let s = stepped (az_frm_eq_rule h d p) (λ (az : Rad). sky_from az h d p) (triple x z a) e in
    let t = stepped (alt_frm_eq_rule h d p) (λ (alt : Rad). bearings s.value alt) (triple x z a) s.next in
    from_them s.value t.value s.first t.first (same_value t.next)
  where
    from_them : (v w : Rad) → az_frm_eq_rule h d p ≡ answered v → alt_frm_eq_rule h d p ≡ answered w
        → triple (northward (to_degrees v)).0 (to_degrees v).0 (to_degrees w).0 ≡ triple x z a → InSky h d p x z a
    from_them v w f g e = record { az = v; alt = w; az_is = f; alt_is = g; heading = cc; azimuth = cc; altitude = cc }

-- ---- the sign of a sine that is above zero, and of one below it

plus_of_above : (y : Float) → T (lt zero y) → bears_minus y ≡ false
unfolding lt of_bits bears_minus
plus_of_above nan t = absurd t
plus_of_above (inf true) t = absurd t
plus_of_above (inf false) t = refl
plus_of_above (fin true m e) t = absurd t
plus_of_above (fin false m e) t = refl

minus_of_below : (y : Float) → T (lt y zero) → bears_minus y ≡ true
unfolding lt of_bits bears_minus
minus_of_below nan t = absurd t
minus_of_below (inf true) t = refl
minus_of_below (inf false) t = absurd t
minus_of_below (fin true m e) t = refl
minus_of_below (fin false m e) t = absurd (none (m * up e * 1) (down e) (ltb→lt (m * up e * 1) (0 * down e) t))
  where
    none : (a u : ℕ) → a < 0 * u → ⊥
    none a u h = omega arith

-- a heading and an azimuth that differ by half a turn, rounded once; a whole turn is 0
carried_over : (x z x' z' : Float) → x ≡ x' → z ≡ z' → (x' ≡ z' ⊕ half_turn) ⊎ ((z' ⊕ half_turn ≡ turn_in_degrees) × (x' ≡ zero))
    → (x ≡ z ⊕ half_turn) ⊎ ((z ⊕ half_turn ≡ turn_in_degrees) × (x ≡ zero))
carried_over x z x' z' e f c = rw (e, f) c

module _ (h d p : Rad) (x z a : Float) (answer : sky_in h d p ≡ answered (triple x z a)) where
  sky : InSky h d p x z a
  sky = in_sky h d p x z a answer

  far : size sky.az.0 ≼ PI
  far = azimuth_at_most_half_turn h d p sky.az sky.az_is

  -- ---- on the circle, and finite

  pub sky_heading_within : IsHeading x
  sky_heading_within = subst IsHeading (sym sky.heading) (turned_within sky.az far)

  pub sky_azimuth_between : Between (neg half_turn) half_turn z
  sky_azimuth_between = subst (Between (neg half_turn) half_turn) (sym sky.azimuth) (degrees_between sky.az far)

  pub sky_altitude_between : Between (neg east) east a
  unfolding is_finite le neg mul of_bits
  sky_altitude_between =
      subst (Between (neg east) east) (sym sky.altitude)
      (bounded binary64 (neg east) east (known (size→between HALF sky.alt.0 tt (alt_frm_eq_at_most_quarter_turn h d p sky.alt sky.alt_is)) ⊠ con degrees_of_radian) tt)

  -- ---- the azimuth and half a turn, rounded once; a whole turn is 0

  pub sky_heading_turned : (x ≡ z ⊕ half_turn) ⊎ ((z ⊕ half_turn ≡ turn_in_degrees) × (x ≡ zero))
  sky_heading_turned = carried_over x z _ _ sky.heading sky.azimuth (turned_cases sky.az far)

  -- ---- the halves of the circle

  sign : (s : Bool) → bears_minus (sine_of h) ≡ s → bears_minus sky.az.0 ≡ s
  sign s e = rw (azimuth_sign h d p sky.az sky.az_is) e

  pub sky_west : T (lt zero (sine_of h)) → (half_turn ≼ x) ⊎ (x ≡ zero)
  sky_west t = rw sky.heading (turned_west sky.az far (sign false (plus_of_above (sine_of h) t)))

  pub sky_east : T (lt (sine_of h) zero) → x ≼ half_turn
  sky_east t = rw sky.heading (turned_east sky.az far (sign true (minus_of_below (sine_of h) t)))

  pub sky_south : bears_minus (southward h d p) ≡ false → Between east west x
  sky_south e = rw sky.heading (turned_south sky.az far (azimuth_at_most_quarter_turn h d p sky.az sky.az_is e))

  pub sky_north : bears_minus (southward h d p) ≡ true → (x ≼ east) ⊎ (west ≼ x)
  sky_north e = rw sky.heading (turned_north sky.az far (azimuth_at_least_quarter_turn h d p sky.az sky.az_is e))
