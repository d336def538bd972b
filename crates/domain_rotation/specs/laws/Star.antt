-- What `rotate` stores of a star where the days are not refused: its status is 0, 3, 7, 9, 10 or 14; 10 exactly where its place is empty, 9
-- exactly where it is not and its record is out of range, 3 exactly where a kept record in range has its shifted declination past HALF in
-- size, 14 exactly where none of these holds and its vector comes to lie in the third axis, 7 exactly where none of these holds and its
-- height exceeds 1 in size. An answered right ascension is at most PI in size, a declination at most HALF, and both are finite.
use Rattle.std.specs.Prelude.{ℕ, ◌≡◌, refl, ◌↔◌, not, ◌&&◌, T, Float}
use Rattle.std.proofs.Common.{inl}
use Rattle.std.proofs.Math.Logic.{inr}
use native.Mathlib.Omega.{arith}
use Rattle.double.specs.rules.Order.{Finite}
use Rattle.quantity.specs.declared.Rad.{Rad}
use Rattle.quantity.specs.rules.Answer.{Answer, answered, refused, Pair, status_of}
use Rattle.quantity.specs.rules.Refusal.{epoch}
use Rattle.quantity.specs.notions.Stated.{later}
use Rattle.edition.specs.declared.Edition.{Edition}
use Rattle.precess_angles.specs.rules.Days.{days_refusal}
use Rattle.list.specs.declared.Star.{Star}
use Rattle.list.specs.rules.Record.{in_range}
use Rattle.list.specs.rules.Stars.{is_kept}
use Rattle.star_place.specs.rules.Place.{years_between, asc_of, dec_of}
use Rattle.star_store.specs.rules.Star.{star_refusal, first_of, second_of}
use Rattle.star_store.specs.notions.Stated.{past_the_pole}
use Rattle.star_store.specs.notions.Status.{is_past_the_pole, OfItsPlace}
use Rattle.star_store.specs.laws.Star.{place_accepted}
use Rattle.star_store.specs.laws.Status.{status_of_a_star, answer_of_a_star, ten_of_a_star, nine_of_a_star, three_of_a_star, later_of_a_star}
use Rattle.rotation.specs.rules.Matrix.{Matrix}
use Rattle.rotation.specs.rules.Turns.{rotation_of}
use Rattle.rotation.specs.rules.Place.{rotated_in}
use Rattle.rotation.specs.notions.Computed.{computed}
use Rattle.rotation_list.specs.rules.Rotate.{rotated_star, rotated_on}
use Rattle.domain_accepted.specs.notions.Outcome.{Outcome, SevenOrFourteen}
use Rattle.domain.specs.laws.Star.{finite_of_an_answer}
use Rattle.domain_rotation.specs.notions.Star.{OfARotatedStar, IsRotated, turned_nowhere, turned_too_high}
use Rattle.domain_rotation.specs.laws.Matrix.{rotation_up_to_two}
use Rattle.domain_rotation.specs.laws.Place.{rotated_outcome, rotated_fourteen, rotated_seven}

module _ (edition : Edition) (star : Star) (day1 day2 : Float) (days : days_refusal day1 day2 ≡ 0) where
  abbrev years : Float
  years = years_between day1 day2

  abbrev m : Matrix
  m = rotation_of edition day1 day2

  abbrev asc : Rad
  asc = asc_of star years

  abbrev dec : Rad
  dec = dec_of star years

  -- where its place is reached its angles are not refused
  outcome : star_refusal star years ≡ 0 → Outcome IsRotated SevenOrFourteen (rotated_in m asc dec)
  outcome e =
      let taken = place_accepted star day1 day2 days e in
      rotated_outcome m asc dec (rotation_up_to_two edition day1 day2 days) taken.0 taken.1

  of_its_place : star_refusal star years ≡ 0 → (n : ℕ) → rotated_in m asc dec ≡ refused n → OfItsPlace n
  of_its_place e n h = by_number ((outcome e).refuses n h)
    where
      by_number : SevenOrFourteen n → OfItsPlace n
      by_number (inl e) = record { not_three = omega arith; not_nine = omega arith; not_ten = omega arith }
      by_number (inr e) = record { not_three = omega arith; not_nine = omega arith; not_ten = omega arith }

  pub rotated_star_status : OfARotatedStar (status_of (rotated_on edition day1 day2 star))
  unfolding rotated_star
  rotated_star_status =
      status_of_a_star star day1 day2 days (rotated_in m asc dec) OfARotatedStar
      (inl refl) (inr (inl refl)) (inr (inr (inr (inl refl)))) (inr (inr (inr (inr (inl refl)))))
      (λ e n h. in_all n ((outcome e).refuses n h))
    where
      in_all : (n : ℕ) → SevenOrFourteen n → OfARotatedStar n
      in_all n (inl e) = inr (inr (inl e))
      in_all n (inr e) = inr (inr (inr (inr (inr e))))

  pub rotated_star_ten : rotated_on edition day1 day2 star ≡ refused 10 ↔ T (not (is_kept star))
  unfolding rotated_star
  rotated_star_ten = ten_of_a_star star day1 day2 days (rotated_in m asc dec) of_its_place

  pub rotated_star_nine : rotated_on edition day1 day2 star ≡ refused 9 ↔ T (is_kept star && not (in_range star))
  unfolding rotated_star
  rotated_star_nine = nine_of_a_star star day1 day2 days (rotated_in m asc dec) of_its_place

  pub rotated_star_three : rotated_on edition day1 day2 star ≡ refused 3 ↔ T (is_kept star && (in_range star && is_past_the_pole star years))
  unfolding rotated_star
  rotated_star_three = three_of_a_star star day1 day2 days (rotated_in m asc dec) of_its_place

  pub rotated_star_fourteen : rotated_on edition day1 day2 star ≡ refused 14
      ↔ T (is_kept star && (in_range star && (not (is_past_the_pole star years) && turned_nowhere m asc dec)))
  unfolding rotated_star
  rotated_star_fourteen =
      later_of_a_star star day1 day2 days (rotated_in m asc dec) 14 (record { not_three = omega arith; not_nine = omega arith; not_ten = omega arith }) (turned_nowhere m asc dec)
      (λ e.
      rotated_fourteen m asc dec (rotation_up_to_two edition day1 day2 days) (place_accepted star day1 day2 days e).0 (place_accepted star day1 day2 days e).1)

  pub rotated_star_seven : rotated_on edition day1 day2 star ≡ refused 7
      ↔ T (is_kept star && (in_range star && (not (is_past_the_pole star years) && turned_too_high m asc dec)))
  unfolding rotated_star
  rotated_star_seven =
      later_of_a_star star day1 day2 days (rotated_in m asc dec) 7 (record { not_three = omega arith; not_nine = omega arith; not_ten = omega arith }) (turned_too_high m asc dec)
      (λ e.
      rotated_seven m asc dec (rotation_up_to_two edition day1 day2 days) (place_accepted star day1 day2 days e).0 (place_accepted star day1 day2 days e).1)

  -- half a turn and a quarter at most
  pub rotated_star_answers : (v : Pair) → rotated_on edition day1 day2 star ≡ answered v → IsRotated v
  unfolding rotated_star
  rotated_star_answers = answer_of_a_star star day1 day2 days (rotated_in m asc dec) IsRotated (λ e. (outcome e).answers)

  -- so what is stored is finite
  pub rotated_angles_finite : Finite (first_of (rotated_on edition day1 day2 star)) × Finite (second_of (rotated_on edition day1 day2 star))
  rotated_angles_finite =
      finite_of_an_answer (rotated_on edition day1 day2 star)
      (λ v e.
      let i = rotated_star_answers v e in
      (i.0.finite, i.1.finite))

-- 3 at a stated star: at the pole, and over a century past it
pub rotated_star_meets_three : (edition : Edition) → rotated_on edition epoch later past_the_pole ≡ refused 3
unfolding computed rotated_star star_refusal in_range
rotated_star_meets_three edition = refl
