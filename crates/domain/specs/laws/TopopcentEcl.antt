-- Topocentric ecliptic coordinates on arguments that are not refused: each angle that is worked out stays far below 400000.0, each
-- answer is finite, and the work meets 6 and 7 only: N, the second argument of both arctangents, is tested first. The published
-- latitude lies within a quarter turn, but beside a longitude that is one to the last bit.
use Rattle.std.specs.Prelude.{ℕ, ◌≡◌, ◌⊎◌, Bool, Float}
use Rattle.std.proofs.Math.Path.{refl, sym, ap, subst}
use Rattle.std.proofs.Common.{◌∙◌, lit≤}
use Rattle.std.proofs.Math.Logic.{inl, inr}
use Rattle.std.proofs.Math.Bool.{true, false, cond}
use Rattle.std.proofs.Math.Dec.{T}
use Rattle.std.specs.Float.Ieee.{binary64, neg, add, sub, mul, fits, eq, le, of_bits, round}
use Rattle.std.specs.Float.Ieee.Bits.{is_false}
use Rattle.std.specs.Float.Ieee.Fits.{sub-fits}
use Rattle.double.specs.rules.Operations.{zero, one, ◌⊕◌, ◌⊖◌, ◌⊗◌, ◌⊘◌}
use Rattle.double.specs.rules.Sign.{bears_minus, size, is_finite}
use Rattle.double.specs.rules.Order.{◌≼◌, is_zero, NonZero, Finite, Between}
use Rattle.double.specs.rules.Table.{over}
use Rattle.double.specs.laws.Order.{le_trans}
use Rattle.double.specs.laws.Between.{between, between→size}
use Rattle.double.specs.laws.Sign.{finite_size}
use Rattle.double.specs.notions.Grid.{grid}
use Rattle.double.specs.notions.Range.{known, ◌⊞◌, ◌⊟◌, ◌⊠◌}
use Rattle.quantity.specs.declared.Rad.{Rad}
use Rattle.quantity.specs.declared.EclPoint.{EclPoint}
use Rattle.quantity.specs.declared.GeographPoint.{GeographPoint}
use Rattle.quantity.specs.rules.Answer.{answered, refused, Pair, first, second, Triple, triple, then}
use Rattle.quantity.specs.rules.Refusal.{lower, angle_refusal, latitude_refusal}
use Rattle.quantity.specs.rules.Angle.{rad, PI, HALF}
use Rattle.quantity.specs.laws.Steps.{refused_not_answered, same_value, stepped}
use Rattle.edition.specs.declared.Edition.{Edition}
use Rattle.edition.specs.declared.Edition.TheVariants.{Crate, Published}
use Rattle.elementary.specs.rules.Fold.{fold}
use Rattle.elementary.specs.rules.Sine.{sine_of, cosine_of, farthest_alone}
use Rattle.elementary_arc.specs.rules.Arctangent.{base, supplement_if, arctangent_of, arctangent_in}
use Rattle.elementary_arc.specs.rules.Arcsine.{arcsine_in}
use Rattle.quantity.specs.laws.Accepted.{lower_none, answered_unless}
use Rattle.elementary_arc.specs.laws.Arctangent.{arctangent_size, arctangent_answered, arctangent_in_at_most_half, arctangent_in_at_least_half}
use Rattle.elementary_arc.specs.laws.Arctangent.{arctangent_in_at_most_pi}
use Rattle.helpers.specs.rules.Angle.{within_two_PI}
use Rattle.helpers_earth.specs.rules.Earth.{rho_in}
use Rattle.helpers.specs.laws.Limit.{limited_radians}
use Rattle.parallax.specs.rules.Observer.{centre_of, observer_refusal}
use Rattle.parallax_ecl.specs.rules.Ecliptic.{nearby, long_top, upward, lat_of_crate, lat_published, lat_top, semidiameter_in, ecliptic_from, ecliptic_along}
use Rattle.parallax_ecl.specs.rules.Ecliptic.{ecliptic_at, ecliptic_in, topopcent_refusal, topopcent_ecl_coords_rule}
use Rattle.domain_accepted.specs.laws.Accepted.{angle_sine, angle_cosine, latitude_sine, latitude_cosine}
use Rattle.domain_accepted.specs.notions.Away.{past_half}
use Rattle.domain_accepted.specs.notions.Outcome.{Outcome, Never, SixOrSeven}
use Rattle.domain_accepted.specs.notions.Within.{Angle, Within, AllFinite}
use Rattle.domain_accepted.specs.laws.Outcome.{outcome_answered, outcome_refused, outcome_cond, outcome_then, outcome_wider, rule_answers, rule_refuses}
use Rattle.domain_accepted.specs.laws.Elementary.{second_not_zero, arctangent_number_outcome, arctangent_number_at_most_half, arcsine_number_outcome}
use Rattle.domain_accepted.specs.laws.Elementary.{quotient_not_nan, quotient_no_minus, quotient_not_zero}
use Rattle.domain_accepted.specs.laws.Cosine.{cosine_away, away_not_zero, cosine_ahead, cosine_behind}
use Rattle.domain_accepted.specs.laws.Neighbours.{neighbours}
use Rattle.domain_accepted.specs.laws.Near.{within, near_far, near_cosine}
use Rattle.domain.specs.notions.Pole.{QuarterTurn, UpToThePole}
use Rattle.domain.specs.laws.Earth.{rho_outcome}
use Rattle.domain.specs.laws.Observer.{observer_accepted, arctangent_near_of}

finite_half : Finite HALF
unfolding is_finite of_bits
finite_half = tt

-- a double is HALF at most, or the next one at least
beside_half : (x : Float) → T (fits binary64 x) → Finite x → (x ≼ HALF) ⊎ (past_half ≼ x)
unfolding le of_bits round
beside_half x F p =
    elim (neighbours 51 0x1921fb54442d18 (lit≤ tt) x F p) [
      | inl k ↦ inl (le_trans x (grid binary64 51 0x1921fb54442d18) HALF k tt)
      | inr k ↦ inr (le_trans past_half (grid binary64 51 0x1921fb54442d19) x tt k)
    ]

-- ---- from ρ sin φ' and ρ cos φ', the parallax p, longitude l, latitude b, sidereal time s, obliquity e and semidiameter m

module _ (rs rc : Float) (p l b s e m : Rad) (RS : Within 2 rs) (RC : Within 2 rc) (P : angle_refusal p ≡ 0) (L : angle_refusal l ≡ 0) (B : latitude_refusal b ≡ 0) (S : angle_refusal s ≡ 0) (E : angle_refusal e ≡ 0) (M : angle_refusal m ≡ 0) where
  -- N
  abbrev n : Float
  n = cosine_of l ⊗ cosine_of b ⊖ rc ⊗ sine_of p ⊗ cosine_of s

  n_within : Within 1024 n
  unfolding is_finite le neg add sub mul of_bits round
  n_within =
      within 1024
      (known (angle_cosine l L) ⊠ known (latitude_cosine b B) ⊟ known RC ⊠ known (angle_sine p P) ⊠ known (angle_cosine s S)) tt

  -- what the longitude's arctangent goes by
  abbrev eastward : Float
  eastward = sine_of l ⊗ cosine_of b ⊖ sine_of p ⊗ (rs ⊗ sine_of e ⊕ rc ⊗ cosine_of e ⊗ sine_of s)

  eastward_within : Within 1024 eastward
  unfolding is_finite le neg add sub mul of_bits round
  eastward_within =
      within 1024
      (known (angle_sine l L) ⊠ known (latitude_cosine b B)
      ⊟ known (angle_sine p P) ⊠ (known RS ⊠ known (angle_sine e E) ⊞ known RC ⊠ known (angle_cosine e E) ⊠ known (angle_sine s S))) tt

  n_fits : T (fits binary64 n)
  n_fits = sub-fits binary64 (cosine_of l ⊗ cosine_of b) (rc ⊗ sine_of p ⊗ cosine_of s)

  long_outcome : NonZero n → Outcome (Angle (Within 2048)) SixOrSeven (long_top (centre_of rs rc p) (fold l) (fold b) (fold s) (fold e) n)
  unfolding long_top centre_of is_finite le neg add sub mul of_bits round
  long_outcome not_zero =
      arctangent_near_of eastward n eastward_within
      n_within not_zero

  -- what the latitude's arctangent goes by
  abbrev up : Float
  up = sine_of b ⊖ sine_of p ⊗ (rs ⊗ cosine_of e ⊖ rc ⊗ sine_of e ⊗ sine_of s)

  up_within : Within 512 up
  unfolding is_finite le neg add sub mul of_bits round
  up_within =
      within 512
      (known (latitude_sine b B)
      ⊟ known (angle_sine p P) ⊠ (known RS ⊠ known (angle_cosine e E) ⊟ known RC ⊠ known (angle_sine e E) ⊠ known (angle_sine s S))) tt

  -- the longitude goes into a cosine
  pub long_far : NonZero n → (long : Rad) → long_top (centre_of rs rc p) (fold l) (fold b) (fold s) (fold e) n ≡ answered long
      → size long.0 ≼ farthest_alone
  long_far not_zero long answer = near_far long.0 ((long_outcome not_zero).answers long answer)

  -- where it is never zero, so that the published edition's second 6 never comes
  pub long_cosine_not_zero : (long : Rad) → long_top (centre_of rs rc p) (fold l) (fold b) (fold s) (fold e) n ≡ answered long
      → NonZero (cosine_of long)
  unfolding long_top centre_of le of_bits round
  long_cosine_not_zero long answer =
      away_not_zero (cosine_of long)
      (cosine_away long
      (le_trans (size long.0) PI (over 80 1) (arctangent_in_at_most_pi eastward n long answer eastward_within.finite n_within.finite) tt))

  -- ---- the published latitude

  module _ (not_zero : NonZero n) (long : Rad) (top : long_top (centre_of rs rc p) (fold l) (fold b) (fold s) (fold e) n ≡ answered long) where
    abbrev denominator : Float
    denominator = n ⊘ cosine_of long

    -- where N and the cosine bear one sign it is a quarter turn at most
    same_side : bears_minus n ≡ bears_minus (cosine_of long) → (lat : Rad) → lat_top Published up (cosine_of long) n ≡ answered lat
        → size lat.0 ≼ HALF
    unfolding lat_top lat_published
    same_side same lat is =
        let some = long_cosine_not_zero long top in
        let C = near_cosine long ((long_outcome not_zero).answers long top) in
        arctangent_number_at_most_half up denominator up_within.finite
        (quotient_not_nan n (cosine_of long) n_within.finite C.finite some)
        (quotient_no_minus n (cosine_of long) n_within.finite C.finite same) lat (rw (is_false (is_zero (cosine_of long)) some) at is)

    -- they do, but for a longitude that is a quarter turn to the last bit: there the cosine bears a plus sign
    by_sides : (QuarterTurn long) ⊎ (bears_minus n ≡ bears_minus (cosine_of long))
    unfolding long_top centre_of
    by_sides = by_sign (bears_minus n) refl
      where
        by_sign : (minus : Bool) → bears_minus n ≡ minus → (QuarterTurn long) ⊎ (bears_minus n ≡ bears_minus (cosine_of long))
        by_sign false h =
            inr (h ∙ sym (cosine_ahead long (arctangent_in_at_most_half eastward n long top eastward_within.finite n_within.finite h)))
        by_sign true h =
            let some = second_not_zero eastward n not_zero in
            let from = arctangent_in_at_least_half eastward n long top eastward_within.finite n_within.finite h in
            let most = arctangent_in_at_most_pi eastward n long top eastward_within.finite n_within.finite in
            let is : long ≡ arctangent_of eastward n = same_value (sym top ∙ arctangent_answered eastward n some) in
            let long-size : size long.0 ≡ PI ⊖ base (size eastward) (size n) =
            ap (λ (v : Rad). size v.0) is
            ∙ arctangent_size eastward n eastward_within.finite n_within.finite some
            ∙ ap (λ (u : Bool). supplement_if u (base (size eastward) (size n))) h in
            elim
            (beside_half (size long.0) (subst (λ (x : Float). T (fits binary64 x)) (sym long-size) (sub-fits binary64 PI (base (size eastward) (size n))))
            (rw (finite_size long.0) ((long_outcome not_zero).answers long top).finite)) [
              | inl k ↦ inl (between finite_half finite_half from k)
              | inr k ↦ inr (h ∙ sym (cosine_behind long k most))
            ]

    published_up_to_pole : (lat : Rad) → lat_top Published up (cosine_of long) n ≡ answered lat → (size lat.0 ≼ HALF) ⊎ QuarterTurn long
    published_up_to_pole lat is = elim by_sides [ inl q ↦ inr q | inr same ↦ inl (same_side same lat is) ]

  module _ (long : Rad) (G : Within 2048 long.0) where
    abbrev cos_long : Float
    cos_long = cosine_of long

    G_cosine : Between (neg one) one cos_long
    G_cosine = near_cosine long G

    lat_outcome : NonZero n → (edition : Edition) → Outcome (Angle (Within 2048)) SixOrSeven (lat_top edition up cos_long n)
    unfolding lat_top lat_of_crate lat_published is_finite le neg sub mul of_bits round
    lat_outcome not_zero Crate =
        arctangent_near_of (cos_long ⊗ up) n (within 1024 (known G_cosine ⊠ known up_within) tt) n_within not_zero
    lat_outcome not_zero Published =
        outcome_cond (eq cos_long zero) (refused 6) (arctangent_in up (n ⊘ cos_long)) (outcome_refused 6 (inl refl))
        (λ some.
        outcome_wider (λ v i. within 2048 (known i) tt)
        (arctangent_number_outcome up (n ⊘ cos_long) up_within.finite (quotient_not_nan n cos_long n_within.finite G_cosine.finite some)
        (quotient_not_zero n cos_long n_fits n_within.finite not_zero some (between→size one cos_long G_cosine))))

    -- the latitude goes into a cosine
    pub lat_far : NonZero n → (edition : Edition) (lat : Rad) → lat_top edition up cos_long n ≡ answered lat → size lat.0 ≼ farthest_alone
    lat_far not_zero edition lat answer = near_far lat.0 ((lat_outcome not_zero edition).answers lat answer)

    module _ (not_zero : NonZero n) where
      from_outcome : (lat : Rad) → Within 2048 lat.0 → Outcome AllFinite SixOrSeven (ecliptic_from long cos_long lat m n)
      unfolding ecliptic_from semidiameter_in is_finite le neg mul of_bits round
      from_outcome lat T =
          let top = cos_long ⊗ cosine_of lat ⊗ sine_of m in
          outcome_then (λ (v : Rad). answered (triple (within_two_PI long).0 lat.0 v.0))
          (λ v i. outcome_answered (triple (within_two_PI long).0 lat.0 v.0) ((limited_radians long.0 G.finite).finite, T.finite, i.finite))
          (arcsine_in (top ⊘ n))
          (arcsine_number_outcome (inr refl) (top ⊘ n)
          (quotient_not_nan top n (within 2 (known G_cosine ⊠ known (near_cosine lat T) ⊠ known (angle_sine m M)) tt).finite n_within.finite not_zero))

      along_outcome : (edition : Edition) → Outcome AllFinite SixOrSeven (ecliptic_along edition up long m n)
      unfolding ecliptic_along
      along_outcome edition =
          outcome_then (λ (lat : Rad). ecliptic_from long cos_long lat m n) from_outcome (lat_top edition up cos_long n) (lat_outcome not_zero edition)

  at_outcome : (edition : Edition) → Outcome AllFinite SixOrSeven (ecliptic_at edition (centre_of rs rc p) (fold l) (fold b) (fold s) (fold e) m)
  unfolding ecliptic_at nearby upward centre_of
  at_outcome edition =
      let c = centre_of rs rc p in
      let top = long_top c (fold l) (fold b) (fold s) (fold e) n in
      outcome_cond (eq n zero) (refused 6) (then top (λ (long : Rad). ecliptic_along edition up long m n))
      (outcome_refused 6 (inl refl))
      (λ not_zero.
      outcome_then (λ (long : Rad). ecliptic_along edition up long m n)
      (λ long G. along_outcome long G not_zero edition) top (long_outcome not_zero))

  at_up_to_pole : (t : Triple) → ecliptic_at Published (centre_of rs rc p) (fold l) (fold b) (fold s) (fold e) m ≡ answered t → UpToThePole t
  unfolding ecliptic_at nearby upward centre_of ecliptic_along ecliptic_from
  at_up_to_pole t is = by_test (is_zero n) refl is
    where
      by_test : (z : Bool) → is_zero n ≡ z
          → cond z (refused 6) (then (long_top (centre_of rs rc p) (fold l) (fold b) (fold s) (fold e) n) (λ (long : Rad). ecliptic_along Published up long m n)) ≡ answered t
          → UpToThePole t
      by_test true z h = absurd (refused_not_answered h)
      by_test false z h =
          let not_zero : NonZero n = rw z tt in
          let o = stepped (long_top (centre_of rs rc p) (fold l) (fold b) (fold s) (fold e) n) (λ (long : Rad). ecliptic_along Published up long m n) t h in
          let long = o.value in
          let a = stepped (lat_top Published up (cosine_of long) n) (λ (lat : Rad). ecliptic_from long (cosine_of long) lat m n) t o.next in
          let lat = a.value in
          let d = stepped (semidiameter_in (cosine_of long) lat m n) (λ (v : Rad). answered (triple (within_two_PI long).0 lat.0 v.0)) t a.next in
          subst UpToThePole (same_value d.next)
          (elim (published_up_to_pole not_zero long o.first lat a.first) [ inl k ↦ inl k | inr q ↦ inr (long, (refl, q)) ])

-- ---- the function

-- each argument is accepted
arguments : (q : EclPoint) (parallax : Rad) (place : GeographPoint) (height : Float) (sidereal oblq semidiameter : Rad)
    → topopcent_refusal q parallax place height sidereal oblq semidiameter ≡ 0
    → (observer_refusal parallax place height sidereal ≡ 0) × (angle_refusal (rad q.long) ≡ 0) × (latitude_refusal (rad q.lat) ≡ 0) × (angle_refusal oblq ≡ 0) × (angle_refusal semidiameter ≡ 0)
arguments q parallax place height sidereal oblq semidiameter none =
    let first_two = lower (angle_refusal (rad q.long)) (latitude_refusal (rad q.lat)) in
    let last-two = lower (angle_refusal oblq) (angle_refusal semidiameter) in
    let a = lower_none (lower first_two last-two) (observer_refusal parallax place height sidereal) none in
    let c = lower_none first_two last-two a.0 in
    let d = lower_none (angle_refusal (rad q.long)) (latitude_refusal (rad q.lat)) c.0 in
    let f = lower_none (angle_refusal oblq) (angle_refusal semidiameter) c.1 in
    (a.1, d.0, d.1, f.0, f.1)

module _ (edition : Edition) (q : EclPoint) (parallax : Rad) (place : GeographPoint) (height : Float) (sidereal oblq semidiameter : Rad) where
  abbrev long : Rad
  long = rad q.long

  abbrev lat : Rad
  lat = rad q.lat

  outcome : topopcent_refusal q parallax place height sidereal oblq semidiameter ≡ 0
      → Outcome AllFinite SixOrSeven (ecliptic_in edition q parallax place height sidereal oblq semidiameter)
  unfolding ecliptic_in
  outcome none =
      let a = arguments q parallax place height sidereal oblq semidiameter none in
      let o = observer_accepted parallax place height sidereal a.0 in
      outcome_then
      (λ (rho : Pair). ecliptic_at edition (centre_of (first rho) (second rho) parallax) (fold long) (fold lat) (fold sidereal) (fold oblq) semidiameter)
      (λ rho R. at_outcome (first rho) (second rho) parallax long lat sidereal oblq semidiameter R.0 R.1 o.0 a.1 a.2 o.1 a.3 a.4 edition)
      (rho_in (rad place.lat) height) (rho_outcome (rad place.lat) height o.3 o.4)

  pub topopcent_ecl_coords_finite : (t : Triple)
      → topopcent_ecl_coords_rule edition q parallax place height sidereal oblq semidiameter ≡ answered t → AllFinite t
  topopcent_ecl_coords_finite =
      rule_answers (topopcent_refusal q parallax place height sidereal oblq semidiameter)
      (ecliptic_in edition q parallax place height sidereal oblq semidiameter) outcome

  pub topopcent_ecl_coords_refuses : topopcent_refusal q parallax place height sidereal oblq semidiameter ≡ 0 → (k : ℕ)
      → topopcent_ecl_coords_rule edition q parallax place height sidereal oblq semidiameter ≡ refused k → SixOrSeven k
  topopcent_ecl_coords_refuses =
      rule_refuses (topopcent_refusal q parallax place height sidereal oblq semidiameter)
      (ecliptic_in edition q parallax place height sidereal oblq semidiameter) outcome

-- the published latitude
module _ (q : EclPoint) (parallax : Rad) (place : GeographPoint) (height : Float) (sidereal oblq semidiameter : Rad) where
  pub published_latitude_up_to_the_pole : (t : Triple)
      → topopcent_ecl_coords_rule Published q parallax place height sidereal oblq semidiameter ≡ answered t → UpToThePole t
  unfolding ecliptic_in
  published_latitude_up_to_the_pole t is =
      let u = answered_unless (topopcent_refusal q parallax place height sidereal oblq semidiameter) (ecliptic_in Published q parallax place height sidereal oblq semidiameter) t is in
      let a = arguments q parallax place height sidereal oblq semidiameter u.0 in
      let o = observer_accepted parallax place height sidereal a.0 in
      let c =
      stepped (rho_in (rad place.lat) height)
      (λ (rho : Pair). ecliptic_at Published (centre_of (first rho) (second rho) parallax) (fold (rad q.long)) (fold (rad q.lat)) (fold sidereal) (fold oblq) semidiameter) t u.1 in
      let rho = c.value in
      let R = (rho_outcome (rad place.lat) height o.3 o.4 {Q = Never}).answers rho c.first in
      at_up_to_pole (first rho) (second rho) parallax (rad q.long) (rad q.lat) sidereal oblq semidiameter R.0 R.1 o.0 a.1 a.2 o.1 a.3 a.4 t c.next
