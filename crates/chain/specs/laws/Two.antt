-- What one of two stars side by side has is what it has alone: a reduction in steps, its refusal beside its values.
use Rattle.std.specs.Prelude.{ℕ, ◌≡◌, refl, Bool, true, false, cond, eqb}
use Rattle.std.proofs.Common.{sym, ap, ◌∙◌}
use Rattle.quantity.specs.declared.Rad.{Rad}
use Rattle.quantity.specs.declared.EqPoint.{EqPoint}
use Rattle.quantity.specs.declared.Refusal.{Refusal}
use Rattle.quantity.specs.rules.Answer.{Answer, answered, refused, number, checked, checked_by, Pair, pair, unless, then, Lanes, first_answer, second_answer, first_place, second_place}
use Rattle.quantity.specs.rules.Refusal.{lower}
use Rattle.quantity.specs.notions.Named.{IsNamed}
use Rattle.quantity.specs.laws.Answer.{named_of_check, named_lower, then_unless}
use Rattle.elementary.specs.rules.Direction.{direction_of}
use Rattle.precess.specs.rules.Equatorial.{precessed_in}
use Rattle.precess.specs.rules.Two.{precessed_two}
use Rattle.precess.specs.laws.Two.{first_precessed, second_precessed}
use Rattle.chain.specs.declared.Night.{Night}
use Rattle.chain.specs.rules.Chain.{point, point_refusal}
use Rattle.chain.specs.rules.Night.{moved_under, pair_of, point_under_by, place_under_by, place_under}
use Rattle.chain.specs.laws.Point.{point_named}
use Rattle.chain.specs.rules.Two.{next_refusal, two_places_under_by, two_places_under}

-- one refusal, or else the next
unless_twice : {A : Type 0} (n k : ℕ) (a : Answer A) → unless (cond (eqb n 0) k n) a ≡ unless n (unless k a)
unless_twice n k a = by_case (eqb n 0) refl
  where
    by_case : (b : Bool) → eqb n 0 ≡ b → unless (cond b k n) a ≡ cond b (unless k a) (refused n)
    by_case true e = refl
    by_case false e = rw e

-- a lane's refusal is a number of the table
next_named : (n : ℕ) (p : EqPoint) (k : ℕ) → IsNamed n → IsNamed k → IsNamed (next_refusal n p k)
next_named n p k h i = by_case (eqb n 0)
  where
    by_case : (b : Bool) → IsNamed (cond b (lower (point_refusal p) k) n)
    by_case true = named_lower (point_refusal p) k (point_named p) i
    by_case false = h

-- a star's reduction from its precessed place, which n refuses where it is not 0
under_in_steps : {E : Type 0} (f : E → ℕ) (asc dec : Rad) (night : Night E) (n : ℕ) (p : EqPoint)
    → unless n (answered (pair_of p)) ≡ precessed_in asc dec night.precession
    → unless (next_refusal n p (checked_by f night.check)) (answered (pair_of (moved_under p (direction_of p) night))) ≡ place_under_by f asc dec night
unfolding place_under_by point_under_by then
under_in_steps f asc dec night n p place =
    let under : Pair → Answer Pair = λ x. point_under_by f (point x) night in
    unless_twice n (lower (point_refusal p) (checked_by f night.check)) (answered (pair_of (moved_under p (direction_of p) night)))
    ∙ sym (then_unless n (answered (pair_of p)) under)
    ∙ ap (λ (a : Answer Pair). then a under) place

-- each of two stars side by side is reduced as it is alone, under a night whose refusals f numbers
module _ {E : Type 0} (f : E → ℕ) (asc dec asc2 dec2 : Rad) (night : Night E) where
  pub first_under_by : first_answer (two_places_under_by f asc dec asc2 dec2 night) ≡ place_under_by f asc dec night
  unfolding two_places_under_by
  first_under_by =
      let t = precessed_two asc dec asc2 dec2 night.precession in
      under_in_steps f asc dec night (checked t.first_check) (record { asc = t.first_asc; dec = t.first_dec })
      (first_precessed asc dec asc2 dec2 night.precession)

  pub second_under_by : second_answer (two_places_under_by f asc dec asc2 dec2 night) ≡ place_under_by f asc2 dec2 night
  unfolding two_places_under_by
  second_under_by =
      let t = precessed_two asc dec asc2 dec2 night.precession in
      under_in_steps f asc2 dec2 night (checked t.second_check) (record { asc = t.second_asc; dec = t.second_dec })
      (second_precessed asc dec asc2 dec2 night.precession)

-- under a night whose refusals are the table's, each lane's refusal is a number of the table, and each lane is the star's reduction alone
module _ (asc dec asc2 dec2 : Rad) (night : Night Refusal) where
  abbrev lanes : Lanes
  lanes = two_places_under_by number asc dec asc2 dec2 night

  pub first_refusal_named : IsNamed lanes.first_refusal
  unfolding two_places_under_by
  first_refusal_named =
      let t = precessed_two asc dec asc2 dec2 night.precession in
      next_named (checked t.first_check) (record { asc = t.first_asc; dec = t.first_dec }) (checked night.check) (named_of_check t.first_check) (named_of_check night.check)

  pub second_refusal_named : IsNamed lanes.second_refusal
  unfolding two_places_under_by
  second_refusal_named =
      let t = precessed_two asc dec asc2 dec2 night.precession in
      next_named (checked t.second_check) (record { asc = t.second_asc; dec = t.second_dec }) (checked night.check) (named_of_check t.second_check) (named_of_check night.check)

  pub first_under : first_place (two_places_under asc dec asc2 dec2 night) ≡ place_under asc dec night
  first_under =
      ap (λ (n : ℕ). unless n (answered (pair lanes.first_asc lanes.first_dec))) first_refusal_named
      ∙ first_under_by number asc dec asc2 dec2 night

  pub second_under : second_place (two_places_under asc dec asc2 dec2 night) ≡ place_under asc2 dec2 night
  second_under =
      ap (λ (n : ℕ). unless n (answered (pair lanes.second_asc lanes.second_dec))) second_refusal_named
      ∙ second_under_by number asc dec asc2 dec2 night
