-- A point by the sines and cosines of its two angles.
use Rattle.quantity.specs.declared.EqPoint.{EqPoint}
use Rattle.elementary.specs.declared.Direction.{Direction}
use Rattle.elementary.specs.declared.Directions.{Directions}
use Rattle.elementary.specs.rules.Sine.{sine_of, cosine_of}

unfoldable pub direction_of : EqPoint → Direction
direction_of p =
    record {
      sin_asc = sine_of (record { 0 = p.asc });
      cos_asc = cosine_of (record { 0 = p.asc });
      sin_dec = sine_of (record { 0 = p.dec });
      cos_dec = cosine_of (record { 0 = p.dec });
    }

-- of two points side by side, each what it is alone
unfoldable pub directions_of : EqPoint → EqPoint → Directions
directions_of p q = record { first = direction_of p; second = direction_of q }
