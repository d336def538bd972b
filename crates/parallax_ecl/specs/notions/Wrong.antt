-- Wrong variants of topocentric ecliptic coordinates.
use Rattle.std.specs.Prelude.{cond, Float}
use Rattle.std.specs.Float.Ieee.{eq}
use Rattle.double.specs.rules.Operations.{zero, ◌⊗◌, ◌⊘◌}
use Rattle.quantity.specs.declared.Rad.{Rad}
use Rattle.quantity.specs.declared.EclPoint.{EclPoint}
use Rattle.quantity.specs.declared.GeographPoint.{GeographPoint}
use Rattle.quantity.specs.rules.Angle.{rad}
use Rattle.quantity.specs.rules.Answer.{Answer, refused, Triple, triple, with}
use Rattle.edition.specs.declared.Edition.{Edition}
use Rattle.elementary_arc.specs.rules.Arctangent.{arctangent_in}
use Rattle.helpers.specs.rules.Angle.{within_two_PI}
use Rattle.parallax_ecl.specs.rules.Ecliptic.{topopcent_ecl_coords_rule}

-- the latitude twice
abbrev again : Triple → Triple
again (triple long lat s) = triple (within_two_PI (rad lat)).0 lat s

abbrev pub longitude_is_latitude : Edition → EclPoint → Rad → GeographPoint → Float → Rad → Rad → Rad → Answer Triple
longitude_is_latitude e p parallax site height sidereal oblq semidiameter =
    with again (topopcent_ecl_coords_rule e p parallax site height sidereal oblq semidiameter)

-- Meeus's latitude with the crate's numerator
abbrev pub numerator_keeps_cosine : Float → Float → Float → Answer Rad
numerator_keeps_cosine up cos_long n = cond (eq cos_long zero) (refused 6) (arctangent_in (cos_long ⊗ up) (n ⊘ cos_long))
