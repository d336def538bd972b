-- Nutation of a point (Meeus 23.1).
use Rattle.std.specs.Prelude.{ℕ, Float}
use Rattle.double.specs.rules.Operations.{◌⊕◌, ◌⊖◌, ◌⊗◌, ◌⊘◌}
use Rattle.quantity.specs.declared.Rad.{Rad}
use Rattle.quantity.specs.declared.EqPoint.{EqPoint}
use Rattle.quantity.specs.declared.Shift.{Shift}
use Rattle.quantity.specs.rules.Angle.{rad}
use Rattle.quantity.specs.rules.Answer.{Answer, answered, pair, Pair, unless}
use Rattle.quantity.specs.rules.Refusal.{lower, angle_refusal, steep_refusal}
use Rattle.elementary.specs.declared.Direction.{Direction}
use Rattle.elementary.specs.rules.Sine.{sine_of, cosine_of}
use Rattle.elementary.specs.rules.Direction.{direction_of}
use Rattle.nutation_args.specs.declared.Nutations.{Nutations}

-- of a direction, from the sine s and the cosine c of the obliquity
unfoldable pub nutation_at : Direction → Nutations → Float → Float → Shift
nutation_at d n s c =
    let tan = d.sin_dec ⊘ d.cos_dec in
    record {
      asc = rad (n.long.0 ⊗ (c ⊕ s ⊗ d.sin_asc ⊗ tan) ⊖ d.cos_asc ⊗ tan ⊗ n.oblq.0);
      dec = rad (s ⊗ d.cos_asc ⊗ n.long.0 ⊕ d.sin_asc ⊗ n.oblq.0);
    }

abbrev pub nutation_in_refusal : EqPoint → Rad → Rad → Rad → ℕ
nutation_in_refusal p long oblq tru =
    lower (lower (angle_refusal (rad p.asc)) (steep_refusal (rad p.dec)))
    (lower (angle_refusal long) (lower (angle_refusal oblq) (angle_refusal tru)))

unfoldable pub nutation_in_eq_coords_in : EqPoint → Rad → Rad → Rad → Shift
nutation_in_eq_coords_in p long oblq tru =
    nutation_at (direction_of p) (record { long = long; oblq = oblq }) (sine_of tru) (cosine_of tru)

unfoldable pub nutation_in_eq_coords_rule : EqPoint → Rad → Rad → Rad → Answer Pair
nutation_in_eq_coords_rule p long oblq tru =
    unless (nutation_in_refusal p long oblq tru)
    (answered (pair (nutation_in_eq_coords_in p long oblq tru).asc.0 (nutation_in_eq_coords_in p long oblq tru).dec.0))
