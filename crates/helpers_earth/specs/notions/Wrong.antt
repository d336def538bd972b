-- Wrong variants of the figure of the Earth.
use Rattle.std.specs.Prelude.{Float}
use Rattle.double.specs.rules.Operations.{one, ◌⊕◌, ◌⊗◌, ◌⊘◌}
use Rattle.quantity.specs.declared.Rad.{Rad}
use Rattle.quantity.specs.rules.Answer.{Answer, answered, Pair, pair, unless, then}
use Rattle.quantity.specs.rules.Refusal.{number_refusal, lower, steep_refusal}
use Rattle.elementary.specs.declared.Folded.{Folded}
use Rattle.elementary.specs.rules.Fold.{fold}
use Rattle.elementary.specs.rules.Sine.{folded_sine, folded_cosine, tangent_of}
use Rattle.elementary_arc.specs.rules.Arctangent.{arctangent_in}
use Rattle.helpers_earth.specs.rules.Earth.{ratio, radius, rho_at, rho_in, rho_refusal}

-- the reduced latitude, by the ratio of the axes
abbrev reduced : Float → Rad → (Rad → Answer Pair) → Answer Pair
reduced axes lat = then (arctangent_in (axes ⊗ tangent_of lat) one)

-- both at a place, by the ratio of the axes and the height over the radius in each
abbrev placed : Float → Float → Float → Folded → Folded → Answer Pair
placed axes up out u p =
    answered (pair (axes ⊗ folded_sine u ⊕ up ⊗ folded_sine p) (folded_cosine u ⊕ out ⊗ folded_cosine p))

-- the height in metres, in the first
abbrev pub height_not_over_radius : Rad → Float → Answer Pair
height_not_over_radius lat height =
    unless (rho_refusal lat height)
    (reduced ratio lat (λ (u : Rad). placed ratio height (height ⊘ radius) (fold u) (fold lat)))

-- the axes equal
abbrev pub round_earth : Rad → Float → Answer Pair
round_earth lat height =
    unless (rho_refusal lat height)
    (reduced one lat
    (λ (u : Rad). placed one (height ⊘ radius) (height ⊘ radius) (fold u) (fold lat)))

-- the latitude itself for u
abbrev pub latitude_not_reduced : Rad → Float → Answer Pair
latitude_not_reduced lat height = unless (rho_refusal lat height) (rho_at (fold lat) (fold lat) height)

-- any finite height
abbrev pub height_not_refused : Rad → Float → Answer Pair
height_not_refused lat height = unless (lower (steep_refusal lat) (number_refusal height)) (rho_in lat height)
