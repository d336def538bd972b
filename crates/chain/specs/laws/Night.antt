-- The chain is a star's reduction under the night of its two days.
use Rattle.std.specs.Prelude.{ℕ, ◌≡◌, Float}
use Rattle.std.proofs.Math.Path.{ap}
use Rattle.std.proofs.Common.{sym, ◌∙◌}
use Rattle.quantity.specs.declared.Rad.{Rad}
use Rattle.quantity.specs.rules.Angle.{rad}
use Rattle.quantity.specs.rules.Answer.{Answer, answered, Pair, pair, first, second, unless, then}
use Rattle.quantity.specs.rules.Refusal.{lower, day_refusal, angle_refusal, latitude_refusal}
use Rattle.quantity.specs.laws.Answer.{then_unless, unless_cong, then_cong}
use Rattle.edition.specs.declared.Edition.{Edition}
use Rattle.quantity.specs.laws.Accepted.{lower_none}
use Rattle.precess_angles.specs.rules.Days.{days_refusal, place_refusal}
use Rattle.precess_angles.specs.rules.Equatorial.{eq_precession_of}
use Rattle.precess.specs.rules.Equatorial.{precessed_in}
use Rattle.nutation.specs.rules.Day.{nutation_rule}
use Rattle.nutation_table.specs.rules.Day.{nutation_of}
use Rattle.nutation.specs.rules.Point.{nutation_in_eq_coords_rule, nutation_in_eq_coords_in}
use Rattle.aberr.specs.rules.Star.{stell_aberr_in_eq_coords_rule, stell_aberr_in_eq_coords_in}
use Rattle.chain.specs.rules.Obliquity.{mean_obliquity_of, true_obliquity}
use Rattle.chain.specs.rules.Chain.{point, sum, from_point, chain_rule, point_refusal, angles_refusal}
use Rattle.chain.specs.laws.Point.{angles_named}
use Rattle.chain.specs.rules.Night.{night_from, night_of, moved, moved_under, point_under_by, point_under, place_under_by, place_under}

unless_none : {A : Type 0} (n : ℕ) (a : Answer A) → n ≡ 0 → unless n a ≡ a
unless_none n a e = rw e

-- two steps that refuse alike up to n and d, d being none
two_steps : {A B C : Type 0} (m n d : ℕ) (x : A) (y : B) (f : A → B → C) → d ≡ 0
    → then (unless (lower m n) (answered x)) (λ (u : A). then (unless (lower m d) (answered y)) (λ (v : B). answered (f u v))) ≡ unless (lower m n) (answered (f x y))
unfolding then
two_steps {A = A} {B = B} {C = C} m n d x y f ok =
    then_unless (lower m n) (answered x) second
    ∙ unless_cong (lower m n) (second x) (answered (f x y))
    (λ e. ap (λ (a : Answer B). then a (λ (v : B). answered (f x v))) (unless_none (lower m d) (answered y) (none e)))
  where
    second : A → Answer C
    second u = then (unless (lower m d) (answered y)) (λ (v : B). answered (f u v))

    none : lower m n ≡ 0 → lower m d ≡ 0
    none e = rw ((lower_none m n e).0, ok)

module _ (edition : Edition) (asc dec : Rad) (day1 day2 : Float) where
  abbrev nutations : Pair
  nutations = pair (nutation_of day2).long.0 (nutation_of day2).oblq.0

  abbrev oblq : Rad
  oblq = true_obliquity (mean_obliquity_of day2) (nutation_of day2).oblq

  -- at a precessed point, the second day being accepted
  at_point : (p : Pair) → day_refusal day2 ≡ 0 → from_point p nutations day2 ≡ point_under (point p) (night_of edition day1 day2)
  unfolding nutation_in_eq_coords_rule stell_aberr_in_eq_coords_rule nutation_in_eq_coords_in stell_aberr_in_eq_coords_in point_under_by moved_under moved night_of night_from
  at_point p ok =
      two_steps (point_refusal (point p)) (angles_refusal (nutation_of day2) oblq) (day_refusal day2)
      (pair (nutation_in_eq_coords_in (point p) (rad (first nutations)) (rad (second nutations)) oblq).asc.0
      (nutation_in_eq_coords_in (point p) (rad (first nutations)) (rad (second nutations)) oblq).dec.0)
      (pair (stell_aberr_in_eq_coords_in (point p) day2).asc.0 (stell_aberr_in_eq_coords_in (point p) day2).dec.0)
      (sum p) ok
      ∙ ap (λ (k : ℕ). unless (lower (point_refusal (point p)) k) (answered (moved_sum p))) (sym (angles_named (nutation_of day2) oblq))
    where
      moved_sum : Pair → Pair
      moved_sum q =
          let n = nutation_in_eq_coords_in (point q) (rad (first nutations)) (rad (second nutations)) oblq in
          let a = stell_aberr_in_eq_coords_in (point q) day2 in
          sum q (pair n.asc.0 n.dec.0) (pair a.asc.0 a.dec.0)

  abbrev steps : Pair → Answer Pair
  steps p = then (nutation_rule day2) (λ (n : Pair). from_point p n day2)

  abbrev under : Pair → Answer Pair
  under p = point_under (point p) (night_of edition day1 day2)

  -- an accepted place has an accepted second day
  second_day : place_refusal asc dec day1 day2 ≡ 0 → day_refusal day2 ≡ 0
  unfolding days_refusal
  second_day e =
      (lower_none (day_refusal day1) (day_refusal day2)
      (lower_none (lower (angle_refusal asc) (latitude_refusal dec)) (days_refusal day1 day2) e).1).1

  same_steps : day_refusal day2 ≡ 0 → (p : Pair) → steps p ≡ under p
  unfolding nutation_rule then
  same_steps ok p =
      ap (λ (a : Answer Pair). then a (λ (n : Pair). from_point p n day2)) (unless_none (day_refusal day2) (answered nutations) ok)
      ∙ at_point p ok

  pub chain_under_a_night : chain_rule edition asc dec day1 day2 ≡ unless (place_refusal asc dec day1 day2) (place_under asc dec (night_of edition day1 day2))
  unfolding chain_rule place_under_by night_of night_from
  chain_under_a_night =
      then_unless (place_refusal asc dec day1 day2) (precessed_in asc dec (eq_precession_of edition day1 day2)) steps
      ∙ unless_cong (place_refusal asc dec day1 day2) (then (precessed_in asc dec (eq_precession_of edition day1 day2)) steps)
      (then (precessed_in asc dec (eq_precession_of edition day1 day2)) under)
      (λ e. then_cong (precessed_in asc dec (eq_precession_of edition day1 day2)) steps under (same_steps (second_day e)))
