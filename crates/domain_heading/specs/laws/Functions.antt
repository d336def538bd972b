-- The mirrors, of every two answers that meet the promise of `sky_in`, and of every two sights whose places mirror each other.
use Rattle.std.specs.Prelude.{ℕ, ◌≡◌, Float, Result, Ok, Err}
use Rattle.std.proofs.Common.{sym, ap, subst, ◌∙◌}
use Rattle.std.specs.Float.Ieee.{neg}
use Rattle.double.specs.rules.Sign.{bears_minus}
use Rattle.double.specs.rules.Order.{NonZero}
use Rattle.quantity.specs.declared.Refusal.{Refusal}
use Rattle.quantity.specs.declared.Rad.{Rad}
use Rattle.quantity.specs.rules.Angle.{deg, rad, opposite}
use Rattle.quantity.specs.rules.Answer.{answered, second, triple, shown_three, with, number}
use Rattle.quantity.specs.laws.Answer.{carried, shown_three_loses_nothing}
use Rattle.quantity.specs.laws.Steps.{same_value, with_refused}
use Rattle.edition.specs.declared.Edition.{Edition}
use Rattle.coords.specs.rules.Horizon.{southward}
use Rattle.list.specs.declared.Star.{Star}
use Rattle.heading.specs.rules.Sky.{northward, sky_in}
use Rattle.domain_heading.specs.notions.Heading.{hour_angle, Sighted}
use Rattle.domain_heading.specs.notions.Mirror.{mirrored, Across}
use Rattle.domain_heading.specs.laws.Sky.{in_sky, sky_azimuth_between}
use Rattle.domain_heading.specs.laws.Mirror.{sky_hour, headings_across}
use Rattle.domain_heading.specs.laws.Declination.{sky_altitude_stays, sky_sign_stays, sky_refused_there, sky_refused_here}

-- ---- two answers in the sky

-- what is answered at the opposite hour angle: the azimuth's sign changes, the altitude stays, and the headings lie across the meridian
pub sky_across : (h d p : Rad) (x z a x' z' a' : Float) → sky_in h d p ≡ answered (triple x z a) → sky_in (opposite h) d p ≡ answered (triple x' z' a')
    → (z' ≡ neg z) × (a' ≡ a) × Across x x'
sky_across h d p x z a x' z' a' e f = by_values (same_value (sym f ∙ sky_hour h d p ∙ ap (with mirrored) e))
  where
    -- the heading is the azimuth's
    here : x ≡ (northward (deg z)).0
    here = (in_sky h d p x z a e).heading ∙ ap (λ (y : Float). (northward (deg y)).0) (sym (in_sky h d p x z a e).azimuth)

    by_values : triple x' z' a' ≡ triple (northward (deg (neg z))).0 (neg z) a → (z' ≡ neg z) × (a' ≡ a) × Across x x'
    by_values k =
        let there : x' ≡ (northward (deg (neg z))).0 = cc in
        (cc, cc, subst (λ (y : Float). Across y x') (sym here) (subst (Across (northward (deg z)).0) (sym there) (headings_across z (sky_azimuth_between h d p x z a e))))

-- ---- the function's

module _ (h d p : Rad) (r s : Result (Float × Float × Float) Refusal) (meets : shown_three r ≡ sky_in h d p) where
  module _ (meets' : shown_three s ≡ sky_in (opposite h) d p) where
    pub sky_in_hour : shown_three s ≡ with mirrored (shown_three r)
    sky_in_hour = carried shown_three (with mirrored) r s meets meets' (sky_hour h d p)

    pub sky_in_hour_refused_there : (n : Refusal) → r ≡ Err n → s ≡ Err n
    sky_in_hour_refused_there n is = shown_three_loses_nothing s (Err n) (sky_in_hour ∙ ap (λ (q : Result (Float × Float × Float) Refusal). with mirrored (shown_three q)) is)

    pub sky_in_hour_refused_here : (n : Refusal) → s ≡ Err n → r ≡ Err n
    sky_in_hour_refused_here n is =
        shown_three_loses_nothing r (Err n) (with_refused (shown_three r) mirrored (number n) (sym sky_in_hour ∙ ap shown_three is))

    pub sky_in_hour_answered : (x z a x' z' a' : Float) → r ≡ Ok (x, z, a) → s ≡ Ok (x', z', a') → (z' ≡ neg z) × (a' ≡ a) × Across x x'
    sky_in_hour_answered x z a x' z' a' is is' =
        sky_across h d p x z a x' z' a' (sym meets ∙ ap shown_three is) (sym meets' ∙ ap shown_three is')

  module _ (meets' : shown_three s ≡ sky_in h (opposite d) (opposite p)) where
    pub sky_in_declination_refused_there : (n : Refusal) → r ≡ Err n → s ≡ Err n
    sky_in_declination_refused_there n is =
        shown_three_loses_nothing s (Err n) (meets' ∙ sky_refused_there h d p (number n) (sym meets ∙ ap shown_three is))

    pub sky_in_declination_refused_here : (n : Refusal) → s ≡ Err n → r ≡ Err n
    sky_in_declination_refused_here n is =
        shown_three_loses_nothing r (Err n) (meets ∙ sky_refused_here h d p (number n) (sym meets' ∙ ap shown_three is))

-- ---- two sights, end to end

module _ (edition edition' : Edition) (star star' : Star) (day1 day2 day1' day2' : Float) (long long' lat lat' : Rad) (x z a x' z' a' : Float) (here : Sighted edition star day1 day2 long lat (triple x z a)) (there : Sighted edition' star' day1' day2' long' lat' (triple x' z' a')) where
  abbrev hour : Rad
  hour = hour_angle here.place day2 long

  abbrev hour' : Rad
  hour' = hour_angle there.place day2' long'

  abbrev dec : Rad
  dec = rad (second here.place)

  abbrev dec' : Rad
  dec' = rad (second there.place)

  -- the one hour angle is the other's opposite
  pub heading_mirror : hour' ≡ opposite hour → dec' ≡ dec → lat' ≡ lat → (z' ≡ neg z) × (a' ≡ a) × Across x x'
  heading_mirror h d p =
      sky_across hour dec lat x z a x' z' a' here.seen
      (subst (λ (t : Rad). sky_in t dec lat ≡ answered (triple x' z' a')) h
      (subst (λ (t : Rad). sky_in hour' t lat ≡ answered (triple x' z' a')) d
      (subst (λ (t : Rad). sky_in hour' dec' t ≡ answered (triple x' z' a')) p there.seen)))

  -- declination and latitude are the others' opposites
  pub heading_declination : NonZero (southward hour dec lat) → hour' ≡ hour → dec' ≡ opposite dec → lat' ≡ opposite lat
      → (bears_minus z' ≡ bears_minus z) × (a' ≡ a)
  heading_declination not_zero h d p =
      let seen' : sky_in hour (opposite dec) (opposite lat) ≡ answered (triple x' z' a') =
      subst (λ (t : Rad). sky_in t (opposite dec) (opposite lat) ≡ answered (triple x' z' a')) h
      (subst (λ (t : Rad). sky_in hour' t (opposite lat) ≡ answered (triple x' z' a')) d
      (subst (λ (t : Rad). sky_in hour' dec' t ≡ answered (triple x' z' a')) p there.seen))
      in
      (sky_sign_stays hour dec lat not_zero x z a x' z' a' here.seen seen', sky_altitude_stays hour dec lat not_zero x z a x' z' a' here.seen seen')
