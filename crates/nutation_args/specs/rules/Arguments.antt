-- The five arguments at the century t (Meeus, chapter 22), each folded into one turn of degrees, in radians.
use Rattle.std.specs.Prelude.{Float}
use Rattle.double.specs.rules.Operations.{◌⊕◌, ◌⊖◌, ◌⊗◌, ◌⊘◌}
use Rattle.quantity.specs.declared.Deg.{Deg}
use Rattle.quantity.specs.declared.Rad.{Rad}
use Rattle.quantity.specs.rules.Angle.{deg}
use Rattle.helpers.specs.rules.Angle.{within360, radians_of}
use Rattle.nutation_args.specs.declared.Moon.{Moon}
use Rattle.nutation_args.specs.rules.Numbers.{n134·96298, n477198·867398, n0·0086972, n56250, n357·52772, n35999·05034, n0·0001603, n300000}
use Rattle.nutation_args.specs.rules.Numbers.{n297·85036, n445267·11148, n0·0019142, n189474, n93·27191, n483202·017538, n0·0036825, n327270}
use Rattle.nutation_args.specs.rules.Numbers.{n125·04452, n1934·136261, n0·0020708, n450000}

-- M'
unfoldable pub moon_m1 : Float → Deg
moon_m1 t = deg (n134·96298 ⊕ t ⊗ (n477198·867398 ⊕ t ⊗ (n0·0086972 ⊕ t ⊘ n56250)))

-- M
unfoldable pub sun_m : Float → Deg
sun_m t = deg (n357·52772 ⊕ t ⊗ (n35999·05034 ⊖ t ⊗ (n0·0001603 ⊕ t ⊘ n300000)))

-- D
unfoldable pub moon_d : Float → Deg
moon_d t = deg (n297·85036 ⊕ t ⊗ (n445267·11148 ⊖ t ⊗ (n0·0019142 ⊖ t ⊘ n189474)))

-- F
unfoldable pub moon_f : Float → Deg
moon_f t = deg (n93·27191 ⊕ t ⊗ (n483202·017538 ⊖ t ⊗ (n0·0036825 ⊖ t ⊘ n327270)))

-- Ω
unfoldable pub moon_node : Float → Deg
moon_node t = deg (n125·04452 ⊖ t ⊗ (n1934·136261 ⊖ t ⊗ (n0·0020708 ⊕ t ⊘ n450000)))

unfoldable pub in_turn : Deg → Rad
in_turn x = radians_of (within360 x)

unfoldable pub moon_from : Float → Rad → Rad → Rad → Rad → Rad → Moon
moon_from t d m m1 f node = record { t = t; d = d; m = m; m1 = m1; f = f; node = node }

unfoldable pub moon_of : Float → Moon
moon_of t =
    moon_from t (in_turn (moon_d t)) (in_turn (sun_m t)) (in_turn (moon_m1 t)) (in_turn (moon_f t)) (in_turn (moon_node t))
