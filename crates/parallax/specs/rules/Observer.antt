-- The observer: his place from the Earth's centre, and the refusals of what belongs to him.
use Rattle.std.specs.Prelude.{ℕ, Float}
use Rattle.quantity.specs.declared.Rad.{Rad}
use Rattle.quantity.specs.declared.GeographPoint.{GeographPoint}
use Rattle.quantity.specs.rules.Angle.{rad}
use Rattle.quantity.specs.rules.Refusal.{lower, angle_refusal, steep_refusal, height_refusal}
use Rattle.elementary.specs.rules.Sine.{sine_of}
use Rattle.parallax.specs.declared.Centre.{Centre}

-- ρ sin φ', ρ cos φ' and the sine of the parallax
unfoldable pub centre_of : Float → Float → Rad → Centre
centre_of rhoSin rhoCos parallax = record { rho_sin = rhoSin; rho_cos = rhoCos; parallax = sine_of parallax }

-- 4 for his latitude, 5 for his height
unfoldable pub observer_refusal : Rad → GeographPoint → Float → Rad → ℕ
observer_refusal parallax site height sidereal =
    lower (lower (angle_refusal parallax) (angle_refusal sidereal))
    (lower (lower (angle_refusal (rad site.long)) (steep_refusal (rad site.lat))) (height_refusal height))
