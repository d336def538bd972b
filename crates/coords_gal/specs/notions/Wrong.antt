-- Wrong variants of galactic coordinates.
use Rattle.double.specs.rules.Operations.{bits, ◌⊕◌, ◌⊗◌}
use Rattle.quantity.specs.declared.Deg.{Deg}
use Rattle.quantity.specs.declared.Rad.{Rad}
use Rattle.quantity.specs.rules.Angle.{deg}
use Rattle.quantity.specs.rules.Answer.{Answer, unless, added_to}
use Rattle.elementary.specs.rules.Fold.{fold}
use Rattle.elementary.specs.rules.Sine.{folded_sine, folded_cosine}
use Rattle.elementary_arc.specs.rules.Arcsine.{arcsine_in}
use Rattle.helpers.specs.rules.Angle.{radians_of}
use Rattle.coords_gal.specs.rules.Arguments.{gal_refusal, steep_gal_refusal}
use Rattle.coords_gal.specs.rules.Galactic.{south_cel_pole_long, pole, round_pole, from_pole_asc, from_pole_long}

-- the angle round the pole added
abbrev pub galactic_longitude_forward : Rad → Rad → Answer Rad
galactic_longitude_forward a d =
    unless (steep_gal_refusal a d) (added_to (radians_of south_cel_pole_long) (round_pole (from_pole_asc a) (fold d)))

abbrev pub galactic_latitude_regrouped : Rad → Rad → Answer Rad
galactic_latitude_regrouped a d =
    unless (gal_refusal a d)
    (arcsine_in
    (folded_sine (fold d) ⊗ folded_sine pole ⊕ folded_cosine (fold d) ⊗ (folded_cosine pole ⊗ folded_cosine (from_pole_asc a))))

-- 12.5 for 12.25
abbrev south_gal_pole_moved : Deg
south_gal_pole_moved = deg (bits 0x4029000000000000)

abbrev pub galactic_centre_moved : Rad → Rad → Answer Rad
galactic_centre_moved l b =
    unless (steep_gal_refusal l b) (added_to (radians_of south_gal_pole_moved) (round_pole (from_pole_long l) (fold b)))
