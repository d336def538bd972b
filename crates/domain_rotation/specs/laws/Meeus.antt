-- Worked examples of Meeus, chapter 21, under one rotation: each is his to the last digit that he prints.
use Rattle.std.specs.Prelude.{◌≡◌, refl, [], ◌∷◌}
use Rattle.double.specs.rules.Operations.{bits}
use Rattle.quantity.specs.rules.Refusal.{epoch}
use Rattle.quantity.specs.notions.Stated.{later}
use Rattle.edition.specs.declared.Edition.TheVariants.{Published}
use Rattle.units.specs.notions.Computed as units
use Rattle.rotation.specs.rules.Turns.{rotation_of}
use Rattle.rotation.specs.rules.Place.{rotated_in}
use Rattle.rotation.specs.notions.Computed.{computed}
use Rattle.domain_rotation.specs.notions.Meeus.{digits, in_degrees, polaris}

-- theta Persei, example 21.b: from 41.054063 and 49.227750 degrees to 2462088.69, 41.547214 and 49.348483
pub theta_persei_rotated : digits (bits 0x412e848000000000) (bits 0x412e848000000000) (rotated_in (rotation_of Published epoch (bits 0x4142c8c45851eb85)) (in_degrees (bits 0x404486eb8950763a)) (in_degrees (bits 0x40489d26e978d4fe))) ≡ 41547214 ∷ 49348483 ∷ []
unfolding computed units.computed
theta_persei_rotated = refl

-- Polaris, the chapter's exercise, in hundredths of a second of time and of arc: at 2415020.3135, 1h22m33.90s and 88d46'26.18"
pub polaris_1900_rotated : polaris (bits 0x41426cd62820c49c) ≡ 495390 ∷ 31958618 ∷ []
unfolding computed units.computed
polaris_1900_rotated = refl

-- at 2469807.5, 3h48m16.43s and 89d27'15.38"
pub polaris_2050_rotated : polaris (bits 0x4142d7d7c0000000) ≡ 1369643 ∷ 32203538 ∷ []
unfolding computed units.computed
polaris_2050_rotated = refl

-- at 2488070.0, 5h53m29.17s and 89d32'22.18"
pub polaris_2100_rotated : polaris later ≡ 2120917 ∷ 32234218 ∷ []
unfolding computed units.computed
polaris_2100_rotated = refl
