-- The figure of the Earth (Meeus, chapter 11): the observer's place from its centre, in equatorial radii.
use Rattle.std.specs.Prelude.{ℕ, Float}
use Rattle.double.specs.rules.Operations.{bits, one, ◌⊕◌, ◌⊗◌, ◌⊘◌}
use Rattle.quantity.specs.declared.Rad.{Rad}
use Rattle.quantity.specs.rules.Answer.{Answer, answered, Pair, pair, unless, then}
use Rattle.quantity.specs.rules.Refusal.{lower, steep_refusal, height_refusal}
use Rattle.elementary.specs.declared.Folded.{Folded}
use Rattle.elementary.specs.rules.Fold.{fold}
use Rattle.elementary.specs.rules.Sine.{folded_sine, folded_cosine, tangent_of}
use Rattle.elementary_arc.specs.rules.Arctangent.{arctangent_in}

-- 0.99664719
abbrev pub ratio : Float
ratio = bits 0x3fefe488a5d668d8

-- 6378140.0
abbrev pub radius : Float
radius = bits 0x415854a700000000

-- ρ sin φ' = 0.99664719·sin u + (H/6378140)·sin φ, and ρ cos φ' = cos u + (H/6378140)·cos φ
abbrev pub rho_at : Folded → Folded → Float → Answer Pair
rho_at u p height =
    answered
    (pair (ratio ⊗ folded_sine u ⊕ height ⊘ radius ⊗ folded_sine p) (folded_cosine u ⊕ height ⊘ radius ⊗ folded_cosine p))

-- u = arctangent of (0.99664719·tan φ, 1)
unfoldable pub rho_in : Rad → Float → Answer Pair
rho_in lat height =
    then (arctangent_in (ratio ⊗ tangent_of lat) one) (λ (u : Rad). rho_at (fold u) (fold lat) height)

abbrev pub rho_refusal : Rad → Float → ℕ
rho_refusal lat height = lower (steep_refusal lat) (height_refusal height)

abbrev pub rho_sin_cos_phi_rule : Rad → Float → Answer Pair
rho_sin_cos_phi_rule lat height = unless (rho_refusal lat height) (rho_in lat height)
