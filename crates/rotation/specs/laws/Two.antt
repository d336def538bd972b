-- Each of two places side by side is the one that it is alone.
use Rattle.std.specs.Prelude.{◌≡◌}
use Rattle.quantity.specs.declared.Rad.{Rad}
use Rattle.quantity.specs.rules.Answer.{first_place, second_place}
use Rattle.precess_arcs.specs.rules.Arcs.{arcs_two}
use Rattle.precess_arcs.specs.laws.Arcs.{arcs_checked, arced_by_tests}
use Rattle.rotation.specs.rules.Matrix.{Matrix, part}
use Rattle.rotation.specs.rules.Place.{place_along, toward, turned, rotated_in, rotated_two}

module _ (m : Matrix) (asc dec asc2 dec2 : Rad) where
  pub first_rotated : first_place (rotated_two m (toward asc dec) (toward asc2 dec2)) ≡ rotated_in m asc dec
  unfolding rotated_two rotated_in place_along arcs_two
  first_rotated =
      let v = turned m asc dec in
      rw (arcs_checked (part v 1) (part v 0) (part v 2)) (arced_by_tests (part v 1) (part v 0) (part v 2))

  pub second_rotated : second_place (rotated_two m (toward asc dec) (toward asc2 dec2)) ≡ rotated_in m asc2 dec2
  unfolding rotated_two rotated_in place_along arcs_two
  second_rotated =
      let v = turned m asc2 dec2 in
      rw (arcs_checked (part v 1) (part v 0) (part v 2)) (arced_by_tests (part v 1) (part v 0) (part v 2))
