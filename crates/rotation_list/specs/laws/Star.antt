-- A star under a rotation has one place, alone or beside another, and a status that the tally knows.
use Rattle.std.specs.Prelude.{ℕ, ◌≤◌, ◌≡◌, Float}
use Rattle.std.proofs.Common.{sym, ap, ◌∙◌}
use Rattle.quantity.specs.rules.Answer.{answered, checked, unless, pair, status_of, first_place, second_place}
use Rattle.list.specs.declared.Star.{Star}
use Rattle.list_tally.specs.rules.Status.{highest_status}
use Rattle.star_place.specs.rules.Place.{asc_of, dec_of}
use Rattle.star_store.specs.laws.Known.{known_both, known_arctangent, known_arcsine, known_star}
use Rattle.star_store.specs.laws.Star.{earlier_named, star_named, in_its_lane}
use Rattle.star_store.specs.rules.Star.{star_refusal, earlier}
use Rattle.quantity.specs.declared.Places.{Places}
use Rattle.quantity.specs.declared.Refusal.{Refusal}
use Rattle.quantity.specs.laws.Answer.{named_of_check}
use Rattle.rotation.specs.rules.Matrix.{Matrix}
use Rattle.rotation.specs.rules.Place.{place_along, toward, rotated_in, rotated_two}
use Rattle.rotation.specs.laws.Two.{first_rotated, second_rotated}
use Rattle.rotation_list.specs.rules.Rotate.{rotated_star, two_stars_rotated}

module _ (m : Matrix) (years : Float) (a b : Star) where
  abbrev places : Places Refusal
  places = rotated_two m (toward (asc_of a years) (dec_of a years)) (toward (asc_of b years) (dec_of b years))

  pub first_lane : unless (earlier (star_refusal a years) (checked places.first_check)) (answered (pair places.first_asc places.first_dec)) ≡ rotated_star m years a
  unfolding rotated_star
  first_lane =
      in_its_lane a years (checked places.first_check) (pair places.first_asc places.first_dec) _
      (first_rotated m (asc_of a years) (dec_of a years) (asc_of b years) (dec_of b years))

  pub first_star : first_place (two_stars_rotated m years a b) ≡ rotated_star m years a
  unfolding two_stars_rotated
  first_star =
      ap (λ (n : ℕ). unless n (answered (pair places.first_asc places.first_dec)))
      (earlier_named (star_refusal a years) (checked places.first_check) (star_named a years) (named_of_check places.first_check))
      ∙ first_lane

  pub second_lane : unless (earlier (star_refusal b years) (checked places.second_check)) (answered (pair places.second_asc places.second_dec)) ≡ rotated_star m years b
  unfolding rotated_star
  second_lane =
      in_its_lane b years (checked places.second_check) (pair places.second_asc places.second_dec) _
      (second_rotated m (asc_of a years) (dec_of a years) (asc_of b years) (dec_of b years))

  pub second_star : second_place (two_stars_rotated m years a b) ≡ rotated_star m years b
  unfolding two_stars_rotated
  second_star =
      ap (λ (n : ℕ). unless n (answered (pair places.second_asc places.second_dec)))
      (earlier_named (star_refusal b years) (checked places.second_check) (star_named b years) (named_of_check places.second_check))
      ∙ second_lane

-- so a star has one place, whatever star it stands beside and on whichever side
pub beside_any_star : (m : Matrix) (years : Float) (star a b : Star)
    → first_place (two_stars_rotated m years star a) ≡ second_place (two_stars_rotated m years b star)
beside_any_star m years star a b = first_star m years star a ∙ sym (second_star m years b star)

pub known_rotated : (m : Matrix) (years : Float) (star : Star) → status_of (rotated_star m years star) ≤ highest_status
unfolding rotated_star rotated_in place_along
known_rotated m years star = known_star star years _ (known_both _ _ (known_arctangent _ _) (known_arcsine _))
