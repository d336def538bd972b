-- Negate declination with latitude, as condition 3 has it, the azimuth's second argument not being zero: the altitude stays, the azimuth's sign
-- stays, and the size with a negative second argument is PI less the other, rounded once, before both become degrees. Refused calls refuse alike.
use Rattle.std.specs.Prelude.{ℕ, ◌≡◌, refl, Bool, true, false, not, Float}
use Rattle.std.proofs.Common.{sym, ap, ◌∙◌}
use Rattle.std.specs.Float.{binary64}
use Rattle.std.specs.Float.Ieee.{neg, mul, le, of_bits}
use Rattle.double.specs.rules.Operations.{zero, ◌⊖◌, ◌⊗◌}
use Rattle.double.specs.rules.Sign.{bears_minus, size, is_finite}
use Rattle.double.specs.rules.Order.{◌≼◌, NonZero, Finite, Between}
use Rattle.double.specs.notions.Range.{known, con, ◌⊠◌}
use Rattle.double.specs.laws.Sign.{minus_neg, no_minus_of_plus, plus_size, finite_size}
use Rattle.double.specs.laws.Between.{size_between}
use Rattle.double.specs.laws.Interval.{bounded}
use Rattle.double.specs.laws.Mirror.{mul_neg_l}
use Rattle.double.specs.laws.NearZero.{mul_plus}
use Rattle.quantity.specs.declared.Rad.{Rad}
use Rattle.quantity.specs.rules.Angle.{PI, opposite}
use Rattle.quantity.specs.rules.Answer.{Answer, answered, refused, triple, then}
use Rattle.quantity.specs.laws.Steps.{refused_not_answered, same_value}
use Rattle.units.specs.rules.Degrees.{degrees_of_radian, to_degrees}
use Rattle.coords.specs.rules.Horizon.{southward, az_frm_eq_rule, alt_frm_eq_rule}
use Rattle.helpers.specs.rules.Circle.{half_turn}
use Rattle.heading.specs.rules.Sky.{bearings, sky_from, sky_in}
use Rattle.conditions.specs.laws.Azimuth.{azimuth_at_most_half_turn}
use Rattle.conditions.specs.laws.Declination.{altitude_declination, azimuth_refused_there, azimuth_refused_here, azimuth_sign_stays, azimuth_size_there}
use Rattle.conditions.specs.laws.Declination.{azimuth_size_here}
use Rattle.domain_heading.specs.notions.Sky.{InSky}
use Rattle.domain_heading.specs.laws.Turn.{finite_pi, signed_size}
use Rattle.domain_heading.specs.laws.Sky.{in_sky}

-- ---- degrees keep the sign of radians

degrees_sign : (v : Rad) → size v.0 ≼ PI → bears_minus (to_degrees v).0 ≡ bears_minus v.0
unfolding is_finite le neg mul of_bits
degrees_sign v far = by_sign (bears_minus v.0) refl
  where
    i : Between zero PI (size v.0)
    i = size_between v.0 PI finite_pi far

    F : Finite v.0
    F = rw (finite_size v.0) at i.finite

    plus : bears_minus (size v.0 ⊗ degrees_of_radian) ≡ false
    plus = no_minus_of_plus _ (mul_plus binary64 (size v.0) degrees_of_radian i.finite tt (plus_size v.0 F) tt)

    minus : bears_minus (neg (size v.0) ⊗ degrees_of_radian) ≡ true
    minus =
        ap bears_minus (mul_neg_l binary64 (size v.0) degrees_of_radian)
        ∙ minus_neg (size v.0 ⊗ degrees_of_radian) (bounded binary64 (neg half_turn) half_turn (known i ⊠ con degrees_of_radian) tt).finite
        ∙ ap not plus

    by_sign : (s : Bool) → bears_minus v.0 ≡ s → bears_minus (v.0 ⊗ degrees_of_radian) ≡ bears_minus v.0
    by_sign true e = ap (λ (y : Float). bears_minus (y ⊗ degrees_of_radian)) (signed_size v.0 true e F) ∙ minus ∙ sym e
    by_sign false e = ap (λ (y : Float). bears_minus (y ⊗ degrees_of_radian)) (signed_size v.0 false e F) ∙ plus ∙ sym e

-- ---- answered

module _ (h d p : Rad) (not_zero : NonZero (southward h d p)) (x z a x' z' a' : Float) (here : sky_in h d p ≡ answered (triple x z a)) (there : sky_in h (opposite d) (opposite p) ≡ answered (triple x' z' a')) where
  pub in_sky_here : InSky h d p x z a
  in_sky_here = in_sky h d p x z a here

  pub in_sky_there : InSky h (opposite d) (opposite p) x' z' a'
  in_sky_there = in_sky h (opposite d) (opposite p) x' z' a' there

  -- the altitude stays
  pub sky_altitude_stays : a' ≡ a
  sky_altitude_stays =
      in_sky_there.altitude
      ∙ ap (λ (w : Rad). (to_degrees w).0) (same_value (sym in_sky_there.alt_is ∙ altitude_declination h d p ∙ in_sky_here.alt_is))
      ∙ sym in_sky_here.altitude

  -- the azimuth's sign stays
  pub sky_sign_stays : bears_minus z' ≡ bears_minus z
  sky_sign_stays =
      ap bears_minus in_sky_there.azimuth
      ∙ degrees_sign in_sky_there.az (azimuth_at_most_half_turn h (opposite d) (opposite p) in_sky_there.az in_sky_there.az_is)
      ∙ azimuth_sign_stays h d p not_zero in_sky_here.az in_sky_there.az in_sky_here.az_is in_sky_there.az_is
      ∙ sym (degrees_sign in_sky_here.az (azimuth_at_most_half_turn h d p in_sky_here.az in_sky_here.az_is))
      ∙ sym (ap bears_minus in_sky_here.azimuth)

  -- from south to north, and from north to south
  pub sky_size_there : bears_minus (southward h d p) ≡ false → size in_sky_there.az.0 ≡ PI ⊖ size in_sky_here.az.0
  sky_size_there = azimuth_size_there h d p not_zero in_sky_here.az in_sky_there.az in_sky_here.az_is in_sky_there.az_is

  pub sky_size_here : bears_minus (southward h d p) ≡ true → size in_sky_here.az.0 ≡ PI ⊖ size in_sky_there.az.0
  sky_size_here = azimuth_size_here h d p not_zero in_sky_here.az in_sky_there.az in_sky_here.az_is in_sky_there.az_is

-- ---- refused

-- of two azimuths that are refused alike, and one altitude
refused_alike : (a a' b : Answer Rad) → ((n : ℕ) → a ≡ refused n → a' ≡ refused n) → ((n : ℕ) → a' ≡ refused n → a ≡ refused n) → (n : ℕ)
    → then a (λ (az : Rad). then b (λ (alt : Rad). bearings az alt)) ≡ refused n
    → then a' (λ (az : Rad). then b (λ (alt : Rad). bearings az alt)) ≡ refused n
unfolding then bearings
refused_alike (answered v) (answered v') (answered w) to from n e = absurd (refused_not_answered (sym e))
refused_alike (answered v) (answered v') (refused m) to from n e = e
refused_alike (answered v) (refused m) b to from n e = absurd (refused_not_answered (sym (from m refl)))
refused_alike (refused m) a' b to from n e =
    ap (λ (y : Answer Rad). then y (λ (az : Rad). then b (λ (alt : Rad). bearings az alt))) (to m refl) ∙ e

pub sky_refused_there : (h d p : Rad) (n : ℕ) → sky_in h d p ≡ refused n → sky_in h (opposite d) (opposite p) ≡ refused n
unfolding sky_in sky_from
sky_refused_there h d p n e =
    rw (altitude_declination h d p)
    (refused_alike (az_frm_eq_rule h d p) (az_frm_eq_rule h (opposite d) (opposite p)) (alt_frm_eq_rule h d p) (azimuth_refused_there h d p) (azimuth_refused_here h d p) n e)

pub sky_refused_here : (h d p : Rad) (n : ℕ) → sky_in h (opposite d) (opposite p) ≡ refused n → sky_in h d p ≡ refused n
unfolding sky_in sky_from
sky_refused_here h d p n e =
    refused_alike (az_frm_eq_rule h (opposite d) (opposite p)) (az_frm_eq_rule h d p) (alt_frm_eq_rule h d p) (azimuth_refused_here h d p) (azimuth_refused_there h d p) n
    (rw (altitude_declination h d p) at e)
