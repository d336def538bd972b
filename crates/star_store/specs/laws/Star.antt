-- A star's own refusals: they come before those of its place, alone or beside another star; and what holds of a star that they let pass.
use Rattle.std.specs.Prelude.{ℕ, suc, ◌≡◌, refl, Bool, true, false, cond, pos, eqb, Float}
use Rattle.std.proofs.Common.{arith, ap, ◌∙◌}
use Rattle.std.proofs.Math.Dec.{eqb-suc-zero}
use Rattle.std.specs.Float.Ieee.{neg}
use Rattle.double.specs.rules.Order.{Between}
use Rattle.double.specs.rules.Table.{over}
use Rattle.quantity.specs.rules.Angle.{HALF}
use Rattle.quantity.specs.notions.Named.{IsNamed}
use Rattle.quantity.specs.laws.Answer.{named_latitude}
use Rattle.quantity.specs.rules.Answer.{Answer, answered, refused, Pair, unless}
use Rattle.quantity.specs.rules.Refusal.{day_refusal, angle_refusal, latitude_refusal}
use Rattle.quantity.specs.laws.Refusal.{past_none, finite_half}
use Rattle.quantity.specs.laws.Accepted.{lower_none}
use Rattle.precess_angles.specs.rules.Days.{days_refusal}
use Rattle.list.specs.declared.Star.{Star}
use Rattle.list.specs.rules.Record.{in_range}
use Rattle.list.specs.rules.Stars.{is_kept}
use Rattle.star_place.specs.rules.Place.{years_between, record_dec, asc_of, dec_of}
use Rattle.star_place.specs.laws.Days.{years_within}
use Rattle.star_place.specs.laws.InRange.{asc_taken, dec_refusal, record_dec_near}
use Rattle.star_place.specs.laws.ZeroRates.{dec_stays}
use Rattle.star_store.specs.rules.Star.{star_refusal, earlier}
use Rattle.star_store.specs.notions.Status.{is_past_the_pole}

-- side by side: a refusal of the star comes before those of its place
pub in_its_lane : (star : Star) (years : Float) (n : ℕ) (p : Pair) (place : Answer Pair) → unless n (answered p) ≡ place
    → unless (earlier (star_refusal star years) n) (answered p) ≡ unless (star_refusal star years) place
in_its_lane star years n p place h = by_case (star_refusal star years) ∙ ap (unless (star_refusal star years)) h
  where
    by_case : (m : ℕ) → unless (earlier m n) (answered p) ≡ unless m (unless n (answered p))
    by_case ℕ.zero = refl
    by_case (suc m) = rw (eqb-suc-zero m, eqb-suc-zero m)

-- both are numbers of the table
pub star_named : (star : Star) (years : Float) → IsNamed (star_refusal star years)
unfolding star_refusal
star_named star years = by_case (is_kept star) (in_range star)
  where
    by_case : (k b : Bool) → IsNamed (cond k (cond b (latitude_refusal (dec_of star years)) 9) 10)
    by_case true true = named_latitude (dec_of star years)
    by_case true false = refl
    by_case false b = refl

pub earlier_named : (m n : ℕ) → IsNamed m → IsNamed n → IsNamed (earlier m n)
earlier_named m n h k = by_case (eqb m 0)
  where
    by_case : (b : Bool) → IsNamed (cond b n m)
    by_case true = k
    by_case false = h

-- an empty place is 10 whatever stands behind its number, and a kept record out of range is 9 whatever the rest
pub empty_place : (star : Star) (years : Float) → is_kept star ≡ false → star_refusal star years ≡ 10
unfolding star_refusal
empty_place star years k = rw k

pub out_of_range : (star : Star) (years : Float) → is_kept star ≡ true → in_range star ≡ false → star_refusal star years ≡ 9
unfolding star_refusal
out_of_range star years k e = rw (k, e)

-- a star that is not refused is in range, and its declination at most HALF in size
pub star_accepted : (star : Star) (years : Float) → star_refusal star years ≡ 0 → (in_range star ≡ true) × (latitude_refusal (dec_of star years) ≡ 0)
unfolding star_refusal
star_accepted star years e = by_range (is_kept star) (in_range star) (λ f. f) e
  where
    by_range : (k b : Bool) → (b ≡ true → in_range star ≡ true) → cond k (cond b (latitude_refusal (dec_of star years)) 9) 10 ≡ 0
        → (in_range star ≡ true) × (latitude_refusal (dec_of star years) ≡ 0)
    by_range true true r e = (r refl, e)
    by_range true false r e = absurd (omega arith)
    by_range false b r e = absurd (omega arith)

pub years_near : (day1 day2 : Float) → days_refusal day1 day2 ≡ 0 → Between (neg (over 4001 1)) (over 4001 1) (years_between day1 day2)
unfolding days_refusal
years_near day1 day2 days =
    let both = lower_none (day_refusal day1) (day_refusal day2) days in
    years_within day1 day2 both.0 both.1

module _ (star : Star) (day1 day2 : Float) (days : days_refusal day1 day2 ≡ 0) where
  abbrev years : Float
  years = years_between day1 day2

  -- 10, 9, 3, or none: of a kept record in range 3 exactly where the declination exceeds HALF in size
  pub refusal_in_range : is_kept star ≡ true → in_range star ≡ true → star_refusal star years ≡ cond (is_past_the_pole star years) 3 0
  unfolding star_refusal
  refusal_in_range k r = rw (k, r) (dec_refusal star r years (years_near day1 day2 days))

  -- so its answer is 10, 9, 3 or its place's
  pub star_in_cases : (place : Answer Pair)
      → unless (star_refusal star years) place
      ≡ cond (is_kept star) (cond (in_range star) (cond (is_past_the_pole star years) (refused 3) place) (refused 9)) (refused 10)
  star_in_cases place = by_range (is_kept star) (in_range star) (λ e. e) (λ e. e) (λ e. e) (λ e. e)
    where
      by_size : (p : Bool) → unless (cond p 3 0) place ≡ cond p (refused 3) place
      by_size true = refl
      by_size false = refl

      by_range : (k b : Bool) → (k ≡ true → is_kept star ≡ true) → (k ≡ false → is_kept star ≡ false)
          → (b ≡ true → in_range star ≡ true) → (b ≡ false → in_range star ≡ false)
          → unless (star_refusal star years) place
          ≡ cond k (cond b (cond (is_past_the_pole star years) (refused 3) place) (refused 9)) (refused 10)
      by_range true true k e r o =
          ap (λ (n : ℕ). unless n place) (refusal_in_range (k refl) (r refl)) ∙ by_size (is_past_the_pole star years)
      by_range true false k e r o = ap (λ (n : ℕ). unless n place) (out_of_range star years (k refl) (o refl))
      by_range false b k e r o = ap (λ (n : ℕ). unless n place) (empty_place star years (e refl))

  -- a star that is not refused has a right ascension and a declination that are not
  pub place_accepted : star_refusal star years ≡ 0 → (angle_refusal (asc_of star years) ≡ 0) × (latitude_refusal (dec_of star years) ≡ 0)
  place_accepted e =
      let a = star_accepted star years e in
      (asc_taken star a.0 years (years_near day1 day2 days), a.1)

  -- a kept star in range that does not move is not refused
  pub still_not_refused : is_kept star ≡ true → in_range star ≡ true → star.dec_rate ≡ pos 0 → star_refusal star years ≡ 0
  unfolding star_refusal latitude_refusal
  still_not_refused k r d =
      rw (k, r)
      (ap latitude_refusal (dec_stays star r years (years_near day1 day2 days).finite d) ∙ past_none (record_dec star).0 HALF 3 finite_half (record_dec_near star r))
