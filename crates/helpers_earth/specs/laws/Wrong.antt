-- Wrong variants are excluded: each differs from the rule at the input stated. A rule varies: a library that refuses everything, or
-- answers a constant, does not meet it.
use Rattle.std.specs.Prelude.{refl, ◌≢◌}
use Rattle.double.specs.rules.Operations.{bits, zero, half, one}
use Rattle.double.specs.laws.Apart.{apart}
use Rattle.quantity.specs.rules.Angle.{rad}
use Rattle.quantity.specs.notions.Code.{of_pair, of_answer}
use Rattle.quantity.specs.notions.Varies.{Varies}
use Rattle.helpers_earth.specs.rules.Earth.{rho_sin_cos_phi_rule}
use Rattle.helpers_earth.specs.notions.Computed.{computed}
use Rattle.helpers_earth.specs.notions.Wrong.{height_not_over_radius, round_earth, latitude_not_reduced, height_not_refused}

pub rho_sin_cos_phi_varies : Varies (rho_sin_cos_phi_rule (rad half) zero) (rho_sin_cos_phi_rule (rad zero) zero)
unfolding computed
rho_sin_cos_phi_varies = record { here = refl; there = refl; apart = apart (of_answer of_pair) refl }

pub height_not_over_radius_excluded : height_not_over_radius (rad half) one ≢ rho_sin_cos_phi_rule (rad half) one
unfolding computed
height_not_over_radius_excluded = apart (of_answer of_pair) refl

pub round_earth_excluded : round_earth (rad half) zero ≢ rho_sin_cos_phi_rule (rad half) zero
unfolding computed
round_earth_excluded = apart (of_answer of_pair) refl

pub latitude_not_reduced_excluded : latitude_not_reduced (rad half) zero ≢ rho_sin_cos_phi_rule (rad half) zero
unfolding computed
latitude_not_reduced_excluded = apart (of_answer of_pair) refl

-- a height of 1000000.0 metres
pub height_not_refused_excluded : height_not_refused (rad zero) (bits 0x412e848000000000)
    ≢ rho_sin_cos_phi_rule (rad zero) (bits 0x412e848000000000)
unfolding computed
height_not_refused_excluded = apart (of_answer of_pair) refl
