-- Refusals of a frame's arguments: the least number over all of them. A `steep` latitude goes into a tangent.
use Rattle.std.specs.Prelude.{ℕ}
use Rattle.quantity.specs.declared.Rad.{Rad}
use Rattle.quantity.specs.rules.Refusal.{lower, angle_refusal, latitude_refusal, steep_refusal}

-- an hour angle or an azimuth, a declination or an altitude, and the observer's latitude
abbrev pub sky_refusal : Rad → Rad → Rad → ℕ
sky_refusal long lat observer = lower (angle_refusal long) (lower (latitude_refusal lat) (latitude_refusal observer))

abbrev pub steep_sky_refusal : Rad → Rad → Rad → ℕ
steep_sky_refusal long lat observer = lower (angle_refusal long) (lower (steep_refusal lat) (latitude_refusal observer))
