-- Which refusals the changes of frame meet in the work: those that end in an arctangent 14 only, exactly where both its arguments are
-- zero, right ascension from ecliptic coordinates not even that, since a cosine is never zero; those that end in an arcsine never 14.
-- Ecliptic coordinates from equatorial ones stand in EclFrmEq.
use Rattle.std.specs.Prelude.{ℕ, ◌≡◌, ◌↔◌, T, Float, ◌≢◌}
use Rattle.std.proofs.Common.{subst, T_not}
use Rattle.std.specs.Float.Ieee.Fits.{and_r}
use Rattle.double.specs.rules.Operations.{◌⊕◌, ◌⊖◌, ◌⊗◌}
use Rattle.double.specs.rules.Order.{is_zero, NonZero}
use Rattle.quantity.specs.declared.Rad.{Rad}
use Rattle.quantity.specs.rules.Angle.{rad}
use Rattle.quantity.specs.rules.Answer.{refused, unless, added_to, taken_from}
use Rattle.quantity.specs.rules.Refusal.{angle_refusal, steep_refusal}
use Rattle.quantity.specs.laws.Steps.{with_refused}
use Rattle.edition.specs.declared.Edition.{Edition}
use Rattle.edition.specs.rules.Edition.{by_edition}
use Rattle.elementary.specs.declared.Folded.{Folded}
use Rattle.elementary.specs.rules.Fold.{fold}
use Rattle.elementary.specs.rules.Sine.{folded_sine, folded_cosine, folded_tangent, sine_of, cosine_of, tangent_of}
use Rattle.elementary_arc.specs.rules.Arctangent.{both_zero, arctangent_in}
use Rattle.elementary_arc.specs.rules.Arcsine.{arcsine_in}
use Rattle.elementary_arc.specs.laws.Arctangent.{arctangent_refuses_fourteen}
use Rattle.elementary_arc.specs.laws.Arcsine.{arcsine_never_meets_fourteen}
use Rattle.helpers.specs.rules.Angle.{radians_of}
use Rattle.coords.specs.rules.Arguments.{sky_refusal, steep_sky_refusal}
use Rattle.coords.specs.rules.Horizon.{southward, azimuth_in, az_frm_eq_rule, upward, altitude_in, alt_frm_eq_rule, hr_angl_frm_hz_in, hr_angl_frm_hz_rule}
use Rattle.coords.specs.rules.Horizon.{dec_frm_hz_in, dec_frm_hz_rule}
use Rattle.coords_ecl.specs.rules.Arguments.{frame_refusal, steep_frame_refusal}
use Rattle.coords_ecl.specs.rules.Ecliptic.{asc_frm_ecl_in, asc_frm_ecl_rule, dec_frm_ecl_in, dec_frm_ecl_rule}
use Rattle.coords_gal.specs.rules.Arguments.{gal_refusal, steep_gal_refusal}
use Rattle.coords_gal.specs.rules.Galactic.{south_cel_pole_long, south_gal_pole_asc, pole, from_pole_asc, from_pole_long, round_pole, gal_long_in}
use Rattle.coords_gal.specs.rules.Galactic.{gal_long_frm_eq_rule, gal_lat_in, gal_lat_frm_eq_rule, asc_frm_gal_in, asc_frm_gal_rule}
use Rattle.domain_accepted.specs.laws.Accepted.{none_of_three}
use Rattle.domain_accepted.specs.laws.Cosine.{cosine_never_zero}
use Rattle.domain.specs.laws.Elementary.{fourteen_at_end, fourteen_changed, fourteen_accepted}

-- ---- the two shapes of the work

by_arctangent : (n : ℕ) (y x : Float) → n ≡ 0 → (k : ℕ) → unless n (arctangent_in y x) ≡ refused k → (k ≡ 14) × T (both_zero y x)
by_arctangent n y x none k e =
    arctangent_refuses_fourteen y x k (subst (λ (m : ℕ). unless m (arctangent_in y x) ≡ refused k) none e)

-- of a second number that is not zero
by_some : (n : ℕ) (y x : Float) → n ≡ 0 → NonZero x → (k : ℕ) → unless n (arctangent_in y x) ≡ refused k → ⊥
by_some n y x none some k e = T_not (is_zero x) some (and_r (is_zero y) (is_zero x) (by_arctangent n y x none k e).1)

by_arcsine : (n : ℕ) (s : Float) → n ≡ 0 → unless n (arcsine_in s) ≢ refused 14
by_arcsine n s none e =
    arcsine_never_meets_fourteen s (subst (λ (m : ℕ). unless m (arcsine_in s) ≡ refused 14) none e)

-- ---- equatorial and horizontal

module _ (h d p : Rad) where
  pub az_frm_eq_refuses : steep_sky_refusal h d p ≡ 0 → (k : ℕ) → az_frm_eq_rule h d p ≡ refused k → k ≡ 14
  unfolding azimuth_in
  az_frm_eq_refuses none k e = (by_arctangent (steep_sky_refusal h d p) (sine_of h) (southward h d p) none k e).0

  pub az_frm_eq_fourteen : steep_sky_refusal h d p ≡ 0 → az_frm_eq_rule h d p ≡ refused 14 ↔ T (both_zero (sine_of h) (southward h d p))
  unfolding azimuth_in
  az_frm_eq_fourteen =
      fourteen_accepted (steep_sky_refusal h d p) (azimuth_in h d p) (fourteen_at_end (sine_of h) (southward h d p))

  pub alt_frm_eq_never_meets_fourteen : sky_refusal h d p ≡ 0 → alt_frm_eq_rule h d p ≢ refused 14
  unfolding altitude_in
  alt_frm_eq_never_meets_fourteen = by_arcsine (sky_refusal h d p) (upward h d p)

module _ (z a p : Rad) where
  -- the arctangent's second argument
  abbrev to_pole : Float
  to_pole = cosine_of z ⊗ sine_of p ⊕ tangent_of a ⊗ cosine_of p

  pub hr_angl_frm_hz_refuses : steep_sky_refusal z a p ≡ 0 → (k : ℕ) → hr_angl_frm_hz_rule z a p ≡ refused k → k ≡ 14
  unfolding hr_angl_frm_hz_in
  hr_angl_frm_hz_refuses none k e =
      (by_arctangent (steep_sky_refusal z a p) (sine_of z) to_pole none k e).0

  pub hr_angl_frm_hz_fourteen : steep_sky_refusal z a p ≡ 0 → hr_angl_frm_hz_rule z a p ≡ refused 14 ↔ T (both_zero (sine_of z) to_pole)
  unfolding hr_angl_frm_hz_in
  hr_angl_frm_hz_fourteen =
      fourteen_accepted (steep_sky_refusal z a p) (hr_angl_frm_hz_in z a p) (fourteen_at_end (sine_of z) to_pole)

  pub dec_frm_hz_never_meets_fourteen : (e : Edition) → sky_refusal z a p ≡ 0 → dec_frm_hz_rule e z a p ≢ refused 14
  unfolding dec_frm_hz_in
  dec_frm_hz_never_meets_fourteen e =
      by_arcsine (sky_refusal z a p) (sine_of p ⊗ sine_of a ⊖ cosine_of p ⊗ by_edition e (cosine_of z) (cosine_of a) ⊗ cosine_of z)

-- ---- right ascension and declination from ecliptic coordinates

module _ (l b e : Rad) where
  pub asc_frm_ecl_refuses : steep_frame_refusal l b e ≡ 0 → (k : ℕ) → asc_frm_ecl_rule l b e ≡ refused k → ⊥
  unfolding asc_frm_ecl_in
  asc_frm_ecl_refuses none =
      by_some (steep_frame_refusal l b e) (sine_of l ⊗ cosine_of e ⊖ tangent_of b ⊗ sine_of e) (cosine_of l) none
      (cosine_never_zero l (none_of_three (angle_refusal l) (steep_refusal b) (angle_refusal e) none).0)

  pub dec_frm_ecl_never_meets_fourteen : frame_refusal l b e ≡ 0 → dec_frm_ecl_rule l b e ≢ refused 14
  unfolding dec_frm_ecl_in
  dec_frm_ecl_never_meets_fourteen =
      by_arcsine (frame_refusal l b e) (sine_of b ⊗ cosine_of e ⊕ cosine_of b ⊗ sine_of e ⊗ sine_of l)

-- ---- equatorial and galactic

-- the second argument of the arctangent round the pole, of an angle n there and a latitude b
abbrev along_pole : Folded → Rad → Float
along_pole n b = folded_sine pole ⊗ folded_cosine n ⊖ folded_cosine pole ⊗ folded_tangent (fold b)

module _ (a d : Rad) where
  pub gal_long_frm_eq_refuses : steep_gal_refusal a d ≡ 0 → (k : ℕ) → gal_long_frm_eq_rule a d ≡ refused k → k ≡ 14
  unfolding gal_long_in taken_from round_pole
  gal_long_frm_eq_refuses none k e =
      let n = from_pole_asc a in
      let z = radians_of south_cel_pole_long in
      let x = along_pole n d in
      (arctangent_refuses_fourteen (folded_sine n) x k
      (with_refused (arctangent_in (folded_sine n) x) (λ (v : Rad). rad (z.0 ⊖ v.0)) k
      (subst (λ (m : ℕ). unless m (gal_long_in a d) ≡ refused k) none e))
      ).0

  pub gal_long_frm_eq_fourteen : steep_gal_refusal a d ≡ 0
      → gal_long_frm_eq_rule a d ≡ refused 14 ↔ T (both_zero (folded_sine (from_pole_asc a)) (along_pole (from_pole_asc a) d))
  unfolding gal_long_in taken_from round_pole
  gal_long_frm_eq_fourteen =
      let n = from_pole_asc a in
      let z = radians_of south_cel_pole_long in
      fourteen_accepted (steep_gal_refusal a d) (gal_long_in a d)
      (fourteen_changed (folded_sine n) (along_pole n d) (λ (v : Rad). rad (z.0 ⊖ v.0)))

  pub gal_lat_frm_eq_never_meets_fourteen : gal_refusal a d ≡ 0 → gal_lat_frm_eq_rule a d ≢ refused 14
  unfolding gal_lat_in
  gal_lat_frm_eq_never_meets_fourteen =
      by_arcsine (gal_refusal a d)
      (folded_sine (fold d) ⊗ folded_sine pole ⊕ folded_cosine (fold d) ⊗ folded_cosine pole ⊗ folded_cosine (from_pole_asc a))

module _ (l b : Rad) where
  pub asc_frm_gal_refuses : steep_gal_refusal l b ≡ 0 → (k : ℕ) → asc_frm_gal_rule l b ≡ refused k → k ≡ 14
  unfolding asc_frm_gal_in added_to round_pole
  asc_frm_gal_refuses none k e =
      let n = from_pole_long l in
      let z = radians_of south_gal_pole_asc in
      let x = along_pole n b in
      (arctangent_refuses_fourteen (folded_sine n) x k
      (with_refused (arctangent_in (folded_sine n) x) (λ (v : Rad). rad (z.0 ⊕ v.0)) k
      (subst (λ (m : ℕ). unless m (asc_frm_gal_in l b) ≡ refused k) none e))
      ).0

  pub asc_frm_gal_fourteen : steep_gal_refusal l b ≡ 0
      → asc_frm_gal_rule l b ≡ refused 14 ↔ T (both_zero (folded_sine (from_pole_long l)) (along_pole (from_pole_long l) b))
  unfolding asc_frm_gal_in added_to round_pole
  asc_frm_gal_fourteen =
      let n = from_pole_long l in
      let z = radians_of south_gal_pole_asc in
      fourteen_accepted (steep_gal_refusal l b) (asc_frm_gal_in l b)
      (fourteen_changed (folded_sine n) (along_pole n b) (λ (v : Rad). rad (z.0 ⊕ v.0)))
