-- Wrong variants of an answer as its numbers.
use Rattle.std.specs.Prelude.{Float}
use Rattle.double.specs.rules.Operations.{zero}
use Rattle.quantity.specs.declared.Deg.{Deg}
use Rattle.quantity.specs.declared.Rad.{Rad}
use Rattle.quantity.specs.declared.EqPoint.{EqPoint}
use Rattle.quantity.specs.declared.EclPoint.{EclPoint}
use Rattle.quantity.specs.rules.Answer.{Answer, answered, refused, Pair, pair, with}
use Rattle.atmos.specs.declared.Arcmin.{Arcmin}
use Rattle.atmos.specs.rules.Arcminutes.{degrees_of}

abbrev pub degrees_lost : Answer Deg → Answer Float
degrees_lost a = with (λ (x : Deg). zero) a

abbrev pub radians_refused_as_one : Answer Rad → Answer Float
radians_refused_as_one (answered x) = answered x.0
radians_refused_as_one (refused n) = refused 1

abbrev pub arcminutes_in_degrees : Answer Arcmin → Answer Float
arcminutes_in_degrees a = with (λ (x : Arcmin). (degrees_of x).0) a

abbrev pub point_traded : Answer EqPoint → Answer Pair
point_traded a = with (λ (p : EqPoint). pair p.dec p.asc) a

abbrev pub ecliptic_traded : Answer EclPoint → Answer Pair
ecliptic_traded a = with (λ (p : EclPoint). pair p.lat p.long) a
