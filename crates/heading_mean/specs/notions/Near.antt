-- Residuals by their order, and what bounds a list of them; headings in the turn; and what an answer comes from.
use Rattle.std.specs.Prelude.{ℕ, ◌+◌, ◌≤◌, ◌<◌, ◌≡◌, true, false, List, [], ◌∷◌, T, Float, length, get_or}
use Rattle.std.specs.Float.Ieee.{neg, lt}
use Rattle.double.specs.rules.Operations.{bits, zero, ◌⊕◌}
use Rattle.double.specs.rules.Order.{◌≼◌, Between}
use Rattle.quantity.specs.declared.Deg.{Deg}
use Rattle.quantity.specs.rules.Angle.{deg}
use Rattle.helpers.specs.rules.Angle.{turn_in_degrees}
use Rattle.helpers.specs.rules.Circle.{on_circle}
use Rattle.residual_sheet.specs.declared.Residual.{Residual}
use Rattle.residual_sheet.specs.rules.Residual.{farthest_taken}
use Rattle.residual_sheet.specs.rules.Running.{above, below}
use Rattle.heading_mean.specs.rules.Reference.{heading_of, is_reference, reference_place}
use Rattle.heading_mean.specs.rules.Mean.{MeanAndSheet, mean_from}
use Rattle.heading_mean.specs.notions.Accepted.{Accepted}

-- x ≤ y
infix 4 ◌⊑◌
abbrev pub ◌⊑◌ : Residual → Residual → Type 0
x ⊑ y = above x + below y ≤ above y + below x

-- none is below l
abbrev pub AllFrom : Residual → List Residual → Type 0
AllFrom l [] = Unit {0}
AllFrom l (x ∷ xs) = (l ⊑ x) × AllFrom l xs

-- none is above g
abbrev pub AllTo : Residual → List Residual → Type 0
AllTo g [] = Unit {0}
AllTo g (x ∷ xs) = (x ⊑ g) × AllTo g xs

-- the ends of what is taken in
abbrev pub westmost : Residual
westmost = record { minus = true; size = farthest_taken }

abbrev pub eastmost : Residual
eastmost = record { minus = false; size = farthest_taken }

-- 1000 seconds in degrees, 0.2777777777777778
abbrev pub farthest_offset : Float
farthest_offset = bits 0x3fd1c71c71c71c72

-- from 0 to below 360.0
pub record InTurn (x : Deg) : Type 0 where
  pub from : zero ≼ x.0
  pub below : T (lt x.0 turn_in_degrees)

-- the reference of a set
abbrev pub reference_of : List ℕ → Deg
reference_of headings = heading_of (get_or headings (reference_place headings) 0)

-- an answer, of accepted headings, from a reference that is one of them
pub record Answered (headings : List ℕ) (m : MeanAndSheet) : Type 0 where
  pub accepted : Accepted headings
  pub there : reference_place headings < length headings
  pub agreed : is_reference headings (get_or headings (reference_place headings) 0) ≡ true
  pub is : m ≡ mean_from (reference_of headings) headings

-- x is the reference with an offset of 1000 seconds at most on either side, through `limit_to_360`, a whole turn being 0
pub record IsOffset (reference x : Deg) : Type 0 where
  pub offset : Float
  pub within : Between (neg farthest_offset) farthest_offset offset
  pub is : x ≡ on_circle (deg (reference.0 ⊕ offset))
