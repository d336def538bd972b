-- Headings in the mirror.
use Rattle.std.specs.Prelude.{Float, ◌≡◌}
use Rattle.std.specs.Float.Ieee.{neg}
use Rattle.double.specs.rules.Operations.{bits, zero, ◌⊕◌}
use Rattle.double.specs.rules.Order.{◌≼◌, Between}
use Rattle.quantity.specs.rules.Angle.{deg}
use Rattle.quantity.specs.rules.Answer.{Triple, triple}
use Rattle.heading.specs.rules.Sky.{northward}

-- the azimuth with its sign changed, and the heading of that; the altitude stays
abbrev pub mirrored : Triple → Triple
mirrored (triple x z a) = triple (northward (deg (neg z))).0 (neg z) a

-- 2^−44
abbrev pub least : Float
least = bits 0x3d30000000000000

-- the doubles beside 360, each 2^−44 from it
abbrev pub below_whole_turn : Float
below_whole_turn = bits 0x40767fffffffffff

abbrev pub above_whole_turn : Float
above_whole_turn = bits 0x4076800000000001

-- two headings that add to a whole turn within 2^−44 degrees; or one is due north, at 0, and the other no more than so much from it
pub data Across (x y : Float) : Type 0 where
  adds_up : Between below_whole_turn above_whole_turn (x ⊕ y) → Across x y
  first_north : x ≡ zero → y ≼ least → Across x y
  second_north : x ≼ least → y ≡ zero → Across x y
