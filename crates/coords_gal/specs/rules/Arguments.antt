-- Refusals of a frame's arguments: the least number over all of them. A `steep` latitude goes into a tangent.
use Rattle.std.specs.Prelude.{ℕ}
use Rattle.quantity.specs.declared.Rad.{Rad}
use Rattle.quantity.specs.rules.Refusal.{lower, angle_refusal, latitude_refusal, steep_refusal}

-- a longitude and a latitude
abbrev pub gal_refusal : Rad → Rad → ℕ
gal_refusal long lat = lower (angle_refusal long) (latitude_refusal lat)

abbrev pub steep_gal_refusal : Rad → Rad → ℕ
steep_gal_refusal long lat = lower (angle_refusal long) (steep_refusal lat)
