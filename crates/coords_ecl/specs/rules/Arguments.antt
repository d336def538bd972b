-- Refusals of a frame's arguments: the least number over all of them. A `steep` latitude goes into a tangent.
use Rattle.std.specs.Prelude.{ℕ}
use Rattle.quantity.specs.declared.Rad.{Rad}
use Rattle.quantity.specs.rules.Refusal.{lower, angle_refusal, latitude_refusal, steep_refusal}

-- a longitude, a latitude and an obliquity
abbrev pub frame_refusal : Rad → Rad → Rad → ℕ
frame_refusal long lat oblq = lower (angle_refusal long) (lower (latitude_refusal lat) (angle_refusal oblq))

abbrev pub steep_frame_refusal : Rad → Rad → Rad → ℕ
steep_frame_refusal long lat oblq = lower (angle_refusal long) (lower (steep_refusal lat) (angle_refusal oblq))
