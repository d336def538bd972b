-- The arc from rise to culmination, and from there to set (Meeus, chapter 15).
use Rattle.std.specs.Prelude.{cond, Float}
use Rattle.std.specs.Float.Ieee.{neg, lt}
use Rattle.double.specs.rules.Operations.{one, ◌⊖◌, ◌⊗◌, ◌⊘◌}
use Rattle.quantity.specs.declared.Rad.{Rad}
use Rattle.quantity.specs.rules.Angle.{rad, HALF}
use Rattle.quantity.specs.rules.Answer.{Answer, refused, taken_from}
use Rattle.elementary.specs.rules.Sine.{sine_of, cosine_of}
use Rattle.elementary_arc.specs.rules.Arcsine.{arcsine_in}

-- (sin h0 − sin φ·sin δ)/(cos φ·cos δ), of the declination, the observer's latitude and the standard altitude
unfoldable pub arc_cosine : Rad → Rad → Rad → Float
arc_cosine dec lat alt = (sine_of alt ⊖ sine_of lat ⊗ sine_of dec) ⊘ (cosine_of lat ⊗ cosine_of dec)

-- its arccosine, HALF less the arcsine; 15 where it exceeds 1, 16 where it is below −1
unfoldable pub arc_in : Float → Answer Rad
arc_in cosine =
    cond (lt one cosine) (refused 15) (cond (lt cosine (neg one)) (refused 16) (taken_from (rad HALF) (arcsine_in cosine)))
