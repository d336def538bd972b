-- Places as Meeus prints them, and Polaris on a day under one rotation.
use Rattle.std.specs.Prelude.{ℕ, List, [], ◌∷◌, Float}
use Rattle.double.specs.rules.Operations.{bits, ◌⊕◌, ◌⊖◌, ◌⊗◌, ◌⊘◌}
use Rattle.quantity.specs.declared.Rad.{Rad}
use Rattle.quantity.specs.rules.Angle.{deg, rad}
use Rattle.quantity.specs.rules.Answer.{Answer, answered, refused, Pair, first, second}
use Rattle.quantity.specs.rules.Refusal.{epoch}
use Rattle.edition.specs.declared.Edition.TheVariants.{Published}
use Rattle.units.specs.rules.Degrees.{to_degrees}
use Rattle.units.specs.rules.Nearest.{nearest_whole}
use Rattle.helpers.specs.rules.Angle.{radians_of}
use Rattle.star_place.specs.rules.Place.{years_between}
use Rattle.rotation.specs.rules.Turns.{rotation_of}
use Rattle.rotation.specs.rules.Place.{rotated_in}

abbrev pub in_degrees : Float → Rad
in_degrees x = radians_of (deg x)

-- each angle's degrees times a number, to the nearest whole one
abbrev pub digits : Float → Float → Answer Pair → List ℕ
digits a d (answered p) = nearest_whole ((to_degrees (rad (first p))).0 ⊗ a) ∷ nearest_whole ((to_degrees (rad (second p))).0 ⊗ d) ∷ []
digits a d (refused n) = []

-- from 2h31m48.704s and 89d15'50.72" of J2000, moved by 0.19877s and -0.0152" a year, in hundredths of a second of time and of arc
abbrev pub polaris : Float → List ℕ
polaris day =
    let years = years_between epoch day in
    digits (bits 0x40d7700000000000) (bits 0x4115f90000000000)
    (rotated_in (rotation_of Published epoch day)
    (in_degrees ((bits 0x40c1ca5a1cac0831 ⊕ bits 0x3fc9714b9cb6848c ⊗ years) ⊘ bits 0x406e000000000000))
    (in_degrees ((bits 0x41139d1ae147ae14 ⊖ bits 0x3f8f212d77318fc5 ⊗ years) ⊘ bits 0x40ac200000000000)))
