-- A place under a rotation, alone and beside another. `first_rotated` and `second_rotated` in laws/Two say that each of two is the place
-- that it is alone.
use Rattle.std.specs.Prelude.{[], ◌∷◌}
use Rattle.double.specs.rules.Operations.{◌⊗◌}
use Rattle.quantity.specs.declared.Rad.{Rad}
use Rattle.quantity.specs.declared.Places.{Places}
use Rattle.quantity.specs.declared.Refusal.{Refusal}
use Rattle.quantity.specs.rules.Answer.{Answer, Pair, both}
use Rattle.root.specs.rules.Root.{root_of}
use Rattle.elementary.specs.declared.Direction.{Direction}
use Rattle.elementary.specs.rules.Direction.{direction_of}
use Rattle.elementary_arc.specs.rules.Arctangent.{arctangent_in}
use Rattle.elementary_arc.specs.rules.Arcsine.{square, arcsine_in}
use Rattle.precess_arcs.specs.rules.Arcs.{arcs_check, arcs_two}
use Rattle.rotation.specs.rules.Matrix.{Vector, Matrix, part, applied}

-- (cos δ·cos α, cos δ·sin α, sin δ)
unfoldable pub vector_of : Direction → Vector
vector_of d =
    let sa = d.sin_asc in
    let ca = d.cos_asc in
    let sd = d.sin_dec in
    let cd = d.cos_dec in
    cd ⊗ ca ∷ cd ⊗ sa ∷ sd ∷ []

-- where it comes to lie
abbrev pub vector_under : Matrix → Direction → Vector
vector_under m d = applied m (vector_of d)

-- right ascension is the arctangent of (y, x), not folded, declination the arcsine of z. Refusals: 14; 7
unfoldable pub place_along : Vector → Answer Pair
place_along v = both (arctangent_in (part v 1) (part v 0)) (arcsine_in (part v 2))

abbrev pub toward : Rad → Rad → Direction
toward asc dec = direction_of (record { asc = asc.0; dec = dec.0 })

-- where a place's vector comes to lie
abbrev pub turned : Matrix → Rad → Rad → Vector
turned m asc dec = vector_under m (toward asc dec)

unfoldable pub rotated_in : Matrix → Rad → Rad → Answer Pair
rotated_in m asc dec = place_along (turned m asc dec)

-- two places side by side, from their directions, every float of both fixed whatever is refused
unfoldable pub rotated_two : Matrix → Direction → Direction → Places Refusal
rotated_two m d e =
    let v = vector_under m d in
    let w = vector_under m e in
    let arcs = arcs_two (part v 1) (part v 0) (part v 2) (root_of (square (part v 2))) (part w 1) (part w 0) (part w 2) (root_of (square (part w 2))) in
    record {
      first_asc = arcs.first_asc;
      second_asc = arcs.second_asc;
      first_dec = arcs.first_dec;
      second_dec = arcs.second_dec;
      first_check = arcs_check (part v 1) (part v 0) (part v 2);
      second_check = arcs_check (part w 1) (part w 0) (part w 2);
    }
