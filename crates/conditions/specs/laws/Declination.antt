-- Condition 3: negate declination with latitude, the arctangent's second argument not being zero: altitude stays, the azimuth's
-- sign stays, and the size with a negative second argument is PI less the other, rounded once. Refused calls refuse alike, whatever the
-- second argument.
use Rattle.std.specs.Prelude.{ℕ, ◌≡◌, Bool, true, false, not, ◌&&◌}
use Rattle.std.proofs.Common.{sym, ap, ◌∙◌}
use Rattle.std.specs.Float.{binary64}
use Rattle.std.specs.Float.Ieee.{neg}
use Rattle.double.specs.rules.Operations.{◌⊖◌, ◌⊗◌}
use Rattle.double.specs.rules.Sign.{bears_minus, size}
use Rattle.double.specs.rules.Order.{is_zero, NonZero}
use Rattle.double.specs.laws.Sign.{neg_neg, minus_neg}
use Rattle.double.specs.laws.Mirror.{mul_neg_l, mul_neg_r, mul_neg_neg, sub_neg_neg}
use Rattle.double.specs.laws.Zero.{sub_zero_neg}
use Rattle.quantity.specs.declared.Rad.{Rad}
use Rattle.quantity.specs.rules.Angle.{PI, opposite}
use Rattle.quantity.specs.rules.Answer.{answered, refused}
use Rattle.quantity.specs.laws.Refusal.{latitude_opposite, steep_opposite}
use Rattle.elementary.specs.rules.Sine.{sine_of, cosine_of, tangent_of}
use Rattle.elementary_arc.specs.rules.Arctangent.{arctangent_in}
use Rattle.elementary.specs.laws.Mirror.{sine_odd, cosine_even, tangent_odd}
use Rattle.elementary_arc.specs.laws.Arctangent.{arctangent_in_behind}
use Rattle.coords.specs.rules.Arguments.{steep_sky_refusal}
use Rattle.coords.specs.rules.Horizon.{southward, azimuth_in, az_frm_eq_rule, altitude_in, alt_frm_eq_rule}
use Rattle.domain_accepted.specs.laws.Horizon.{southward_finite}
use Rattle.conditions.specs.laws.Alike.{opposite_twice, refused_alike, arctangents_refused_alike}
use Rattle.conditions.specs.laws.Azimuth.{azimuth_accepted, azimuth_worked_out, azimuth_sign}

-- ---- altitude

altitude_in_declination : (h d p : Rad) → altitude_in h (opposite d) (opposite p) ≡ altitude_in h d p
unfolding altitude_in
altitude_in_declination h d p =
    rw (sine_odd p, sine_odd d, cosine_even p, cosine_even d, mul_neg_neg binary64 (sine_of p) (sine_of d))

-- altitude stays
pub altitude_declination : (h d p : Rad) → alt_frm_eq_rule h (opposite d) (opposite p) ≡ alt_frm_eq_rule h d p
altitude_declination h d p = rw (latitude_opposite d, latitude_opposite p, altitude_in_declination h d p)

-- ---- azimuth, refused

refusal_declination : (h d p : Rad) → steep_sky_refusal h (opposite d) (opposite p) ≡ steep_sky_refusal h d p
refusal_declination h d p = rw (steep_opposite d, latitude_opposite p)

-- the second argument is zero in the one as in the other
southward_zero : (h d p : Rad) → is_zero (southward h (opposite d) (opposite p)) ≡ is_zero (southward h d p)
southward_zero h d p =
    rw
    (sine_odd p, tangent_odd d, cosine_even p, mul_neg_r binary64 (cosine_of h) (sine_of p), mul_neg_l binary64 (tangent_of d) (cosine_of p))
    (sub_zero_neg binary64 (cosine_of h ⊗ sine_of p) (tangent_of d ⊗ cosine_of p))

-- by 14 too
pub azimuth_refused_there : (h d p : Rad) (n : ℕ) → az_frm_eq_rule h d p ≡ refused n → az_frm_eq_rule h (opposite d) (opposite p) ≡ refused n
unfolding azimuth_in
azimuth_refused_there h d p n e =
    let x = southward h d p in
    let x' = southward h (opposite d) (opposite p) in
    rw (refusal_declination h d p)
    (refused_alike (steep_sky_refusal h d p) n (azimuth_in h d p) (azimuth_in h (opposite d) (opposite p))
    (arctangents_refused_alike (sine_of h) x (sine_of h) x' (ap (λ (b : Bool). is_zero (sine_of h) && b) (southward_zero h d p))) e)

pub azimuth_refused_here : (h d p : Rad) (n : ℕ) → az_frm_eq_rule h (opposite d) (opposite p) ≡ refused n → az_frm_eq_rule h d p ≡ refused n
azimuth_refused_here h d p n e =
    rw (opposite_twice d, opposite_twice p) at (azimuth_refused_there h (opposite d) (opposite p) n e)

-- ---- azimuth, answered

module _ (h d p : Rad) (not_zero : NonZero (southward h d p)) where
  -- the second argument changes sign
  pub southward_declination : southward h (opposite d) (opposite p) ≡ neg (southward h d p)
  southward_declination =
      rw
      (sine_odd p, tangent_odd d, cosine_even p, mul_neg_r binary64 (cosine_of h) (sine_of p), mul_neg_l binary64 (tangent_of d) (cosine_of p))
      (sub_neg_neg binary64 (cosine_of h ⊗ sine_of p) (tangent_of d ⊗ cosine_of p) not_zero)

  module _ (v w : Rad) (here : az_frm_eq_rule h d p ≡ answered v) (there : az_frm_eq_rule h (opposite d) (opposite p) ≡ answered w) where
    worked_out_there : arctangent_in (sine_of h) (neg (southward h d p)) ≡ answered w
    worked_out_there = rw (southward_declination) at (azimuth_worked_out h (opposite d) (opposite p) w there)

    -- the sign stays
    pub azimuth_sign_stays : bears_minus w.0 ≡ bears_minus v.0
    azimuth_sign_stays = azimuth_sign h (opposite d) (opposite p) w there ∙ sym (azimuth_sign h d p v here)

    -- the second argument is negative there: the size there is PI less the size here
    pub azimuth_size_there : bears_minus (southward h d p) ≡ false → size w.0 ≡ PI ⊖ size v.0
    azimuth_size_there = arctangent_in_behind (sine_of h) (southward h d p) v (azimuth_worked_out h d p v here) w worked_out_there

    -- the second argument is negative here: the size here is PI less the size there
    pub azimuth_size_here : bears_minus (southward h d p) ≡ true → size v.0 ≡ PI ⊖ size w.0
    azimuth_size_here k =
        let x = southward h d p in
        arctangent_in_behind (sine_of h) (neg x) w worked_out_there v (rw (neg_neg x) (azimuth_worked_out h d p v here))
        (minus_neg x (southward_finite h d p (azimuth_accepted h d p v here)) ∙ ap not k)
