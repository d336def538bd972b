-- An ecliptic point of two numbers.
use Rattle.quantity.specs.declared.EclPoint.{EclPoint}
use Rattle.quantity.specs.rules.Answer.{Answer, Pair, first, second, with}

-- a longitude and a latitude; a refusal stays
unfoldable pub point_of : Answer Pair → Answer EclPoint
point_of a = with (λ (p : Pair). record { long = first p; lat = second p }) a
