-- What is known of a star that was answered a heading x, an azimuth z and an altitude a: each came of an angle that coords answered.
use Rattle.std.specs.Prelude.{◌≡◌, Float}
use Rattle.double.specs.rules.Operations.{◌⊕◌}
use Rattle.quantity.specs.declared.Rad.{Rad}
use Rattle.quantity.specs.rules.Answer.{answered}
use Rattle.units.specs.rules.Degrees.{to_degrees}
use Rattle.coords.specs.rules.Horizon.{az_frm_eq_rule, alt_frm_eq_rule}
use Rattle.helpers.specs.rules.Circle.{half_turn}
use Rattle.heading.specs.rules.Sky.{northward}

pub record InSky (h d p : Rad) (x z a : Float) : Type 0 where
  pub az : Rad
  pub alt : Rad
  pub az_is : az_frm_eq_rule h d p ≡ answered az
  pub alt_is : alt_frm_eq_rule h d p ≡ answered alt
  pub heading : x ≡ (northward (to_degrees az)).0
  pub azimuth : z ≡ (to_degrees az).0
  pub altitude : a ≡ (to_degrees alt).0

-- an azimuth in degrees, turned from south to north and not yet folded
abbrev pub turned : Rad → Float
turned az = (to_degrees az).0 ⊕ half_turn
