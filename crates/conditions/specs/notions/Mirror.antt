-- An ecliptic point in the mirror: longitude and latitude with their signs changed.
use Rattle.std.specs.Float.Ieee.{neg}
use Rattle.quantity.specs.declared.EclPoint.{EclPoint}

abbrev pub opposite_point : EclPoint → EclPoint
opposite_point p = record { long = neg p.long; lat = neg p.lat }
