-- Which refusals come of days and a place that are not refused: 9 and 3 of the record, 14, 7 and 4 of its place, and 3, 4, 14 and 7 in the sky.
-- No record is refused by 10, and nothing by 1 or 2.
use Rattle.std.specs.Prelude.{ℕ, ◌≡◌, ◌⊎◌, Bool, true, false, cond, T, eqb, leb, ℤ, Float, Result, Err}
use Rattle.std.proofs.Math.Path.{refl, subst}
use Rattle.std.proofs.Common.{sym, ap, ◌∙◌, inl, eqb→eq}
use Rattle.std.proofs.Math.Logic.{inr}
use Rattle.std.proofs.lemmas.Bool.{eqb-false}
use Rattle.std.specs.Float.Ieee.{binary64, neg, add, sub, mul, le, lt, of_bits, round}
use Rattle.double.specs.rules.Operations.{◌⊖◌}
use Rattle.double.specs.rules.Sign.{size, is_finite}
use Rattle.double.specs.rules.Order.{Finite}
use Rattle.double.specs.rules.Table.{over}
use Rattle.double.specs.notions.Range.{known, ◌⊞◌, ◌⊟◌, ◌⊠◌}
use Rattle.double.specs.laws.Between.{finite_of_size}
use Rattle.double.specs.laws.Interval.{bounded}
use Rattle.quantity.specs.declared.Refusal.{Refusal}
use Rattle.quantity.specs.declared.Rad.{Rad}
use Rattle.quantity.specs.rules.Angle.{rad, HALF}
use Rattle.quantity.specs.rules.Answer.{Answer, answered, refused, Pair, first, second, unless, then, number}
use Rattle.quantity.specs.rules.Refusal.{lower, past, epoch, days_around, day_refusal, farthest, steepest, angle_refusal, latitude_refusal}
use Rattle.quantity.specs.rules.Refusal.{steep_refusal}
use Rattle.quantity.specs.laws.Refusal.{finite_half}
use Rattle.quantity.specs.laws.Steps.{refused_not_answered, same_number, same_value}
use Rattle.quantity.specs.rules.Answer.{shown_three}
use Rattle.edition.specs.declared.Edition.{Edition}
use Rattle.elementary.specs.rules.Sine.{sine_of}
use Rattle.quantity.specs.laws.Accepted.{answered_unless, latitude_accepted}
use Rattle.elementary_arc.specs.laws.Arctangent.{arctangent_refuses_fourteen}
use Rattle.elementary_arc.specs.laws.Arcsine.{arcsine_refuses_seven}
use Rattle.coords.specs.rules.Arguments.{sky_refusal, steep_sky_refusal}
use Rattle.coords.specs.rules.HourAngle.{observer_long_refusal, hr_angl_frm_observer_long, hr_angl_frm_observer_long_rule}
use Rattle.coords.specs.rules.Horizon.{southward, azimuth_in, az_frm_eq_rule, upward, altitude_in, alt_frm_eq_rule}
use Rattle.precess_angles.specs.rules.Days.{days_refusal}
use Rattle.list.specs.declared.Star.{Star}
use Rattle.list.specs.rules.Record.{in_range}
use Rattle.list.specs.rules.Stars.{is_kept}
use Rattle.star_place.specs.rules.Place.{years_between, asc_of, dec_of}
use Rattle.star_store.specs.rules.Star.{star_refusal, first_of, second_of}
use Rattle.star_store.specs.notions.Status.{is_past_the_pole}
use Rattle.star_store.specs.laws.Star.{out_of_range, refusal_in_range}
use Rattle.chain.specs.rules.Chain.{chain_rule}
use Rattle.batch.specs.rules.Star.{star_rule}
use Rattle.batch.specs.laws.Star.{place_taken}
use Rattle.sidereal.specs.rules.Apparent.{apparent_of}
use Rattle.heading.specs.rules.Sky.{bearings, sky_from, sky_in, sky_under}
use Rattle.heading.specs.rules.Heading.{record_of, heading_refusal, heading_in, heading_rule}
use Rattle.domain_accepted.specs.notions.Outcome.{FourSevenOrFourteen}
use Rattle.domain_accepted.specs.laws.Accepted.{none_of_three, angle_between, angle_cosine, latitude_sine, latitude_cosine}
use Rattle.domain.specs.laws.Days.{second_accepted}
use Rattle.domain.specs.laws.Chain.{chain_refuses}
use Rattle.domain.specs.laws.Star.{star_angles_finite}
use Rattle.domain.specs.laws.Sidereal.{apparent_in_turn}
use Rattle.domain_heading.specs.notions.Refusals.{OfASight, NoneThreeOrFour, OfAHeading}

-- ---- a refusal that is tested first, and what follows

pub unless_refuses : {A : Type 0} (Q : ℕ → Type 0) (n : ℕ) (a : Answer A) → ((n ≡ 0 → ⊥) → Q n) → (n ≡ 0 → (k : ℕ) → a ≡ refused k → Q k)
    → (k : ℕ) → unless n a ≡ refused k → Q k
unless_refuses Q n a first next k e = by_case (eqb n 0) (eqb→eq n 0) (eqb-false n 0) e
  where
    by_case : (b : Bool) → (T b → n ≡ 0) → (b ≡ false → n ≡ 0 → ⊥) → cond b a (refused n) ≡ refused k → Q k
    by_case true z o e = next (z tt) k e
    by_case false z o e = subst Q (same_number e) (first (o refl))

then_refuses : {A B : Type 0} (Q : ℕ → Type 0) (a : Answer A) (f : A → Answer B) → ((k : ℕ) → a ≡ refused k → Q k)
    → ((v : A) → a ≡ answered v → (k : ℕ) → f v ≡ refused k → Q k) → (k : ℕ) → then a f ≡ refused k → Q k
unfolding then
then_refuses Q (answered v) f first next k e = next v refl k e
then_refuses Q (refused n) f first next k e = first k (ap refused (same_number e))

-- ---- the numbers of finite angles

pub lower_of : (P : ℕ → Type 0) (a b : ℕ) → P a → P b → P (lower a b)
lower_of P a b p q = one_of (eqb a 0) q (one_of (eqb b 0) p (one_of (leb a b) p q))
  where
    one_of : (c : Bool) {x y : ℕ} → P x → P y → P (cond c x y)
    one_of true p q = p
    one_of false p q = q

past_of : (P : ℕ → Type 0) (x limit : Float) (n : ℕ) → Finite x → P n → P 0 → P (past x limit n)
past_of P x limit n F p q = by_case (is_finite x) (lt limit (size x)) F
  where
    by_case : (b c : Bool) → T b → P (cond b (cond c n 0) 1)
    by_case true true t = p
    by_case true false t = q
    by_case false c t = absurd t

angle_number : (x : Rad) → Finite x.0 → NoneThreeOrFour (angle_refusal x)
unfolding angle_refusal
angle_number x F = past_of NoneThreeOrFour x.0 farthest 3 F (inr (inl refl)) (inl refl)

latitude_number : (x : Rad) → Finite x.0 → NoneThreeOrFour (latitude_refusal x)
unfolding latitude_refusal
latitude_number x F = past_of NoneThreeOrFour x.0 HALF 3 F (inr (inl refl)) (inl refl)

steep_number : (x : Rad) → Finite x.0 → NoneThreeOrFour (steep_refusal x)
unfolding steep_refusal
steep_number x F =
    lower_of NoneThreeOrFour (latitude_refusal x) (past x.0 steepest 4) (latitude_number x F)
    (past_of NoneThreeOrFour x.0 steepest 4 F (inr (inr refl)) (inl refl))

-- such a number, where it is not none
some_number : (n : ℕ) → NoneThreeOrFour n → (n ≡ 0 → ⊥) → OfASight n
some_number n (inl e) some = absurd (some e)
some_number n (inr (inl e)) some = inl e
some_number n (inr (inr e)) some = inr (inl e)

-- ---- in the sky

module _ (h d p : Rad) (H : Finite h.0) (D : Finite d.0) (P : Finite p.0) where
  az_refuses : (k : ℕ) → az_frm_eq_rule h d p ≡ refused k → OfASight k
  unfolding azimuth_in
  az_refuses =
      unless_refuses OfASight (steep_sky_refusal h d p) (azimuth_in h d p)
      (some_number (steep_sky_refusal h d p)
      (lower_of NoneThreeOrFour (angle_refusal h) _ (angle_number h H)
      (lower_of NoneThreeOrFour (steep_refusal d) (latitude_refusal p) (steep_number d D) (latitude_number p P))))
      (λ none k e. inr (inr (inr (inr (arctangent_refuses_fourteen (sine_of h) (southward h d p) k e).0))))

  upward_finite : sky_refusal h d p ≡ 0 → Finite (upward h d p)
  unfolding is_finite le neg add mul of_bits round
  upward_finite none =
      let n = none_of_three (angle_refusal h) (latitude_refusal d) (latitude_refusal p) none in
      (bounded binary64 (neg (over 4 1)) (over 4 1)
      (known (latitude_sine p n.2) ⊠ known (latitude_sine d n.1) ⊞ (known (latitude_cosine p n.2) ⊠ known (latitude_cosine d n.1)) ⊠ known (angle_cosine h n.0)) tt
      ).finite

  alt_refuses : (k : ℕ) → alt_frm_eq_rule h d p ≡ refused k → OfASight k
  unfolding altitude_in
  alt_refuses =
      unless_refuses OfASight (sky_refusal h d p) (altitude_in h d p)
      (some_number (sky_refusal h d p)
      (lower_of NoneThreeOrFour (angle_refusal h) _ (angle_number h H)
      (lower_of NoneThreeOrFour (latitude_refusal d) (latitude_refusal p) (latitude_number d D) (latitude_number p P))))
      (λ none k e. inr (inr (inl (arcsine_refuses_seven (upward h d p) (upward_finite none) k e).0)))

  pub sky_refuses : (k : ℕ) → sky_in h d p ≡ refused k → OfASight k
  unfolding sky_in sky_from bearings
  sky_refuses =
      then_refuses OfASight (az_frm_eq_rule h d p) (λ (az : Rad). sky_from az h d p) az_refuses
      (λ v f.
      then_refuses OfASight (alt_frm_eq_rule h d p) (λ (alt : Rad). bearings v alt) alt_refuses (λ w g k e. absurd (refused_not_answered (sym e))))

module _ (g a d l p : Rad) (G : Finite g.0) (A : Finite a.0) (D : Finite d.0) (L : Finite l.0) (P : Finite p.0) where
  hour_refuses : (k : ℕ) → hr_angl_frm_observer_long_rule g l a ≡ refused k → OfASight k
  hour_refuses =
      unless_refuses OfASight (observer_long_refusal g l a) (answered (hr_angl_frm_observer_long g l a))
      (some_number (observer_long_refusal g l a)
      (lower_of NoneThreeOrFour (angle_refusal g) _ (angle_number g G)
      (lower_of NoneThreeOrFour (angle_refusal l) (angle_refusal a) (angle_number l L) (angle_number a A))))
      (λ none k e. absurd (refused_not_answered (sym e)))

  -- an hour angle that is answered is finite
  hour_finite : (h : Rad) → hr_angl_frm_observer_long_rule g l a ≡ answered h → Finite h.0
  unfolding is_finite le neg sub of_bits round
  hour_finite h e =
      let u = answered_unless (observer_long_refusal g l a) (answered (hr_angl_frm_observer_long g l a)) h e in
      let n = none_of_three (angle_refusal g) (angle_refusal l) (angle_refusal a) u.0 in
      subst (λ (y : Rad). Finite y.0) (same_value u.1)
      (bounded binary64 (neg (over 256 1)) (over 256 1) (known (angle_between g n.0) ⊟ known (angle_between l n.1) ⊟ known (angle_between a n.2)) tt).finite

  under_refuses : (k : ℕ) → sky_under g a d l p ≡ refused k → OfASight k
  unfolding sky_under
  under_refuses =
      then_refuses OfASight (hr_angl_frm_observer_long_rule g l a) (λ (h : Rad). sky_in h d p) hour_refuses
      (λ h e. sky_refuses h d p (hour_finite h e) D P)

-- ---- the star

module _ (edition : Edition) (star : Star) (day1 day2 : Float) (days : days_refusal day1 day2 ≡ 0) (kept : is_kept star ≡ true) where
  abbrev years : Float
  years = years_between day1 day2

  star_number : (star_refusal star years ≡ 0 → ⊥) → OfASight (star_refusal star years)
  star_number some = by_range (in_range star) (λ e. e) (λ e. e)
    where
      by_size : (b : Bool) → (◌≡◌ {A = ℕ} (cond b 3 0) 0 → ⊥) → OfASight (cond b 3 0)
      by_size true f = inl refl
      by_size false f = absurd (f refl)

      by_range : (b : Bool) → (b ≡ true → in_range star ≡ true) → (b ≡ false → in_range star ≡ false) → OfASight (star_refusal star years)
      by_range true r o =
          let e = refusal_in_range star day1 day2 days kept (r refl) in
          subst OfASight (sym e) (by_size (is_past_the_pole star years) (λ z. some (e ∙ z)))
      by_range false r o = inr (inr (inr (inl (out_of_range star years kept (o refl)))))

  star_refuses : (k : ℕ) → star_rule edition star day1 day2 ≡ refused k → OfASight k
  unfolding star_rule
  star_refuses =
      unless_refuses OfASight (star_refusal star years) (chain_rule edition (asc_of star years) (dec_of star years) day1 day2) star_number
      (λ none k e. in_all k (chain_refuses edition (asc_of star years) (dec_of star years) day1 day2 (place_taken star day1 day2 days none) k e))
    where
      in_all : (n : ℕ) → FourSevenOrFourteen n → OfASight n
      in_all n (inl e) = inr (inl e)
      in_all n (inr (inl e)) = inr (inr (inl e))
      in_all n (inr (inr e)) = inr (inr (inr (inr e)))

  place_finite : (v : Pair) → star_rule edition star day1 day2 ≡ answered v → Finite (first v) × Finite (second v)
  place_finite v e = subst (λ (a : Answer Pair). Finite (first_of a) × Finite (second_of a)) e (star_angles_finite edition star day1 day2)

-- ---- the heading

-- none, or a number of a heading
abbrev NoneOrAny : ℕ → Type 0
NoneOrAny n = (n ≡ 0) ⊎ OfAHeading n

day_number : (day : Float) → NoneOrAny (day_refusal day)
unfolding day_refusal
day_number day = by_case (is_finite day) (lt days_around (size (day ⊖ epoch)))
  where
    by_case : (b c : Bool) → NoneOrAny (cond b (cond c 2 0) 1)
    by_case true true = inr (inr (inl refl))
    by_case true false = inl refl
    by_case false c = inr (inl refl)

past_number : (x limit : Float) → NoneOrAny (past x limit 3)
past_number x limit = by_case (is_finite x) (lt limit (size x))
  where
    by_case : (b c : Bool) → NoneOrAny (cond b (cond c 3 0) 1)
    by_case true true = inr (inr (inr (inl refl)))
    by_case true false = inl refl
    by_case false c = inr (inl refl)

argument_number : (day1 day2 : Float) (long lat : Rad) → NoneOrAny (heading_refusal day1 day2 long lat)
unfolding heading_refusal days_refusal angle_refusal latitude_refusal
argument_number day1 day2 long lat =
    lower_of NoneOrAny (days_refusal day1 day2) _ (lower_of NoneOrAny (day_refusal day1) (day_refusal day2) (day_number day1) (day_number day2))
    (lower_of NoneOrAny (angle_refusal long) (latitude_refusal lat) (past_number long.0 farthest) (past_number lat.0 HALF))

module _ (edition : Edition) (asc : ℕ) (dec ascRate decRate : ℤ) (day1 day2 : Float) (long lat : Rad) where
  abbrev star : Star
  star = record_of asc dec ascRate decRate

  in_refuses : heading_refusal day1 day2 long lat ≡ 0 → (k : ℕ) → heading_in edition star day1 day2 long lat ≡ refused k → OfASight k
  unfolding heading_refusal heading_in
  in_refuses none =
      let n = none_of_three (days_refusal day1 day2) (angle_refusal long) (latitude_refusal lat) none in
      then_refuses OfASight (star_rule edition star day1 day2) (λ (p : Pair). sky_under (apparent_of day2) (rad (first p)) (rad (second p)) long lat)
      (star_refuses edition star day1 day2 n.0 refl)
      (λ p e.
      let F = place_finite edition star day1 day2 n.0 refl p e in
      under_refuses (apparent_of day2) (rad (first p)) (rad (second p)) long lat (apparent_in_turn day2 (second_accepted day1 day2 n.0)).finite F.0 F.1
      (angle_between long n.1).finite (finite_of_size lat.0 HALF finite_half (latitude_accepted lat n.2)))

  -- of days and a place that are not refused
  pub heading_refuses : heading_refusal day1 day2 long lat ≡ 0 → (k : ℕ) → heading_rule edition asc dec ascRate decRate day1 day2 long lat ≡ refused k → OfASight k
  unfolding heading_rule
  heading_refuses none k e =
      in_refuses none k (subst (λ (n : ℕ). unless n (heading_in edition star day1 day2 long lat) ≡ refused k) none e)

  -- of any: 1, 2, 3, 4, 7, 9 and 14, and no 10
  pub heading_numbers : (k : ℕ) → heading_rule edition asc dec ascRate decRate day1 day2 long lat ≡ refused k → OfAHeading k
  unfolding heading_rule
  heading_numbers =
      unless_refuses OfAHeading (heading_refusal day1 day2 long lat) (heading_in edition star day1 day2 long lat)
      (λ some. some_of (argument_number day1 day2 long lat) some) (λ none k e. inr (inr (in_refuses none k e)))
    where
      some_of : {n : ℕ} → NoneOrAny n → (n ≡ 0 → ⊥) → OfAHeading n
      some_of (inl e) some = absurd (some e)
      some_of (inr h) some = h

  -- of every answer that meets the promise
  pub heading_refused : (r : Result (Float × Float × Float) Refusal) (k : Refusal) → shown_three r ≡ heading_rule edition asc dec ascRate decRate day1 day2 long lat → r ≡ Err k → OfAHeading (number k)
  heading_refused r k meets is = heading_numbers (number k) (sym meets ∙ ap shown_three is)
