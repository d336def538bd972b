-- What the batch stores of a star: where the days are not refused its status is 0, 3, 4, 7, 9, 10 or 14; 10 exactly where its place is
-- empty, 9 exactly where it is not and its record is out of range, 3 exactly where a kept record in range has its shifted declination past
-- HALF in size, and 14 exactly where none of these holds and the star has no direction after precession; and both angles are finite.
use Rattle.std.specs.Prelude.{ℕ, ◌≡◌, refl, ◌↔◌, Bool, true, false, not, cond, ◌&&◌, T, eqb, Float}
use Rattle.std.proofs.Common.{inl}
use Rattle.std.proofs.Math.Logic.{inr}
use native.Mathlib.Omega.{arith}
use Rattle.double.specs.rules.Sign.{size}
use Rattle.double.specs.rules.Order.{◌≼◌, Finite}
use Rattle.double.specs.rules.Table.{decimal}
use Rattle.double.specs.laws.Between.{finite_zero}
use Rattle.quantity.specs.rules.Answer.{Answer, answered, refused, Pair, status_of}
use Rattle.quantity.specs.rules.Refusal.{epoch}
use Rattle.quantity.specs.notions.Stated.{later}
use Rattle.quantity.specs.laws.Steps.{refused_not_answered}
use Rattle.edition.specs.declared.Edition.{Edition}
use Rattle.precess_angles.specs.rules.Days.{days_refusal}
use Rattle.precess_angles.specs.rules.Equatorial.{eq_precession_of}
use Rattle.chain.specs.rules.Chain.{chain_rule}
use Rattle.chain.specs.notions.Computed.{computed}
use Rattle.list.specs.declared.Star.{Star}
use Rattle.list.specs.rules.Record.{in_range}
use Rattle.list.specs.rules.Stars.{is_kept}
use Rattle.star_place.specs.rules.Place.{years_between, asc_of, dec_of}
use Rattle.star_place.specs.laws.InRange.{asc_near, dec_between}
use Rattle.star_store.specs.rules.Star.{star_refusal, first_of, second_of}
use Rattle.star_store.specs.notions.Stated.{past_the_pole}
use Rattle.star_store.specs.notions.Status.{is_past_the_pole, OfItsPlace}
use Rattle.star_store.specs.laws.Star.{years_near}
use Rattle.star_store.specs.laws.Status.{status_of_a_star, ten_of_a_star, nine_of_a_star, three_of_a_star, later_of_a_star}
use Rattle.batch.specs.rules.Star.{star_rule}
use Rattle.batch.specs.laws.Star.{place_taken}
use Rattle.domain_accepted.specs.notions.Outcome.{FourSevenOrFourteen}
use Rattle.domain_accepted.specs.notions.Within.{Within, BothFinite}
use Rattle.domain.specs.laws.Chain.{chain_refuses, chain_fourteen, chain_finite}
use Rattle.domain.specs.notions.Star.{OfAStar}
use Rattle.domain.specs.notions.Precession.{no_direction}

pub finite_of_an_answer : (a : Answer Pair) → ((v : Pair) → a ≡ answered v → BothFinite v) → Finite (first_of a) × Finite (second_of a)
finite_of_an_answer (answered v) h = h v refl
finite_of_an_answer (refused n) h = (finite_zero, finite_zero)

pub star_angles_finite : (edition : Edition) (star : Star) (day1 day2 : Float)
    → Finite (first_of (star_rule edition star day1 day2)) × Finite (second_of (star_rule edition star day1 day2))
unfolding star_rule
star_angles_finite edition star day1 day2 = finite_of_an_answer (star_rule edition star day1 day2) (by_case (eqb (star_refusal star years) 0))
  where
    years : Float
    years = years_between day1 day2

    by_case : (b : Bool) (v : Pair)
        → cond b (chain_rule edition (asc_of star years) (dec_of star years) day1 day2) (refused (star_refusal star years)) ≡ answered v → BothFinite v
    by_case true v e = chain_finite edition (asc_of star years) (dec_of star years) day1 day2 v e
    by_case false v e = absurd (refused_not_answered e)

module _ (edition : Edition) (star : Star) (day1 day2 : Float) (days : days_refusal day1 day2 ≡ 0) where
  abbrev years : Float
  years = years_between day1 day2

  abbrev chain : Answer Pair
  chain = chain_rule edition (asc_of star years) (dec_of star years) day1 day2

  -- its right ascension is at most 6.68 in size, and its declination 2
  pub star_asc_near : in_range star ≡ true → size (asc_of star years).0 ≼ decimal 668 2
  star_asc_near r = asc_near star r years (years_near day1 day2 days)

  pub star_dec_near : in_range star ≡ true → Within 2 (dec_of star years).0
  star_dec_near r = dec_between star r years (years_near day1 day2 days)

  -- where the chain is reached it takes the place, and refuses it by 4, 7 or 14
  chain_meets : star_refusal star years ≡ 0 → (n : ℕ) → chain ≡ refused n → FourSevenOrFourteen n
  chain_meets e = chain_refuses edition (asc_of star years) (dec_of star years) day1 day2 (place_taken star day1 day2 days e)

  of_its_place : star_refusal star years ≡ 0 → (n : ℕ) → chain ≡ refused n → OfItsPlace n
  of_its_place e n h = by_number (chain_meets e n h)
    where
      by_number : FourSevenOrFourteen n → OfItsPlace n
      by_number (inl e) = record { not_three = omega arith; not_nine = omega arith; not_ten = omega arith }
      by_number (inr (inl e)) = record { not_three = omega arith; not_nine = omega arith; not_ten = omega arith }
      by_number (inr (inr e)) = record { not_three = omega arith; not_nine = omega arith; not_ten = omega arith }

  pub star_status : OfAStar (status_of (star_rule edition star day1 day2))
  unfolding star_rule
  star_status =
      status_of_a_star star day1 day2 days chain OfAStar (inl refl) (inr (inl refl)) (inr (inr (inr (inr (inl refl))))) (inr (inr (inr (inr (inr (inl refl))))))
      (λ e n h. in_all n (chain_meets e n h))
    where
      in_all : (n : ℕ) → FourSevenOrFourteen n → OfAStar n
      in_all n (inl e) = inr (inr (inl e))
      in_all n (inr (inl e)) = inr (inr (inr (inl e)))
      in_all n (inr (inr e)) = inr (inr (inr (inr (inr (inr e)))))

  pub star_ten : star_rule edition star day1 day2 ≡ refused 10 ↔ T (not (is_kept star))
  unfolding star_rule
  star_ten = ten_of_a_star star day1 day2 days chain of_its_place

  pub star_nine : star_rule edition star day1 day2 ≡ refused 9 ↔ T (is_kept star && not (in_range star))
  unfolding star_rule
  star_nine = nine_of_a_star star day1 day2 days chain of_its_place

  pub star_three : star_rule edition star day1 day2 ≡ refused 3 ↔ T (is_kept star && (in_range star && is_past_the_pole star years))
  unfolding star_rule
  star_three = three_of_a_star star day1 day2 days chain of_its_place

  -- the chain has no direction at the star's place
  abbrev turned_nowhere : Bool
  turned_nowhere = no_direction (asc_of star years) (dec_of star years) (eq_precession_of edition day1 day2)

  pub star_fourteen : star_rule edition star day1 day2 ≡ refused 14
      ↔ T (is_kept star && (in_range star && (not (is_past_the_pole star years) && turned_nowhere)))
  unfolding star_rule
  star_fourteen =
      later_of_a_star star day1 day2 days chain 14 (record { not_three = omega arith; not_nine = omega arith; not_ten = omega arith }) turned_nowhere
      (λ e. chain_fourteen edition (asc_of star years) (dec_of star years) day1 day2 (place_taken star day1 day2 days e))

-- ---- 3 at a stated star: at the pole, and over a century past it

pub star_meets_three : (edition : Edition) → star_rule edition past_the_pole epoch later ≡ refused 3
unfolding computed star_rule star_refusal in_range
star_meets_three edition = refl
