-- Wrong variants are excluded: each differs from the rule at the input stated. A rule varies: a library that refuses everything, or
-- answers a constant, does not meet it.
use Rattle.std.specs.Prelude.{ℕ, refl, Float, ◌≢◌}
use Rattle.double.specs.rules.Operations.{zero, half, one, two}
use Rattle.double.specs.laws.Apart.{apart}
use Rattle.quantity.specs.declared.Shift.{Shift}
use Rattle.quantity.specs.rules.Refusal.{epoch}
use Rattle.quantity.specs.notions.Code.{of_rad, of_answer, unread}
use Rattle.quantity.specs.notions.Stated.{north_pole}
use Rattle.quantity.specs.notions.Varies.{Varies}
use Rattle.elementary.specs.declared.Direction.{Direction}
use Rattle.aberr_args.specs.declared.Velocity.{Velocity}
use Rattle.aberr.specs.rules.Sun.{sol_aberr_rule}
use Rattle.aberr.specs.rules.Star.{aberr_at, stell_aberr_in_eq_coords_rule}
use Rattle.aberr.specs.notions.Computed.{computed}
use Rattle.aberr.specs.notions.Wrong.{another_light, cosine_of_declination_missing, declination_not_steep}

abbrev of_asc : Shift → ℕ
of_asc s = of_rad s.asc

-- ---- the Sun

pub sol_aberr_varies : Varies (sol_aberr_rule one) (sol_aberr_rule two)
unfolding computed
sol_aberr_varies = record { here = refl; there = refl; apart = apart (of_answer of_rad) refl }

-- ---- a star

-- right ascension 0.0, and a declination by its cosine
abbrev toward : Float → Direction
toward c = record { sin_asc = zero; cos_asc = one; sin_dec = zero; cos_dec = c }

-- along the second axis
abbrev along : Velocity
along = record { x = zero; y = one; z = zero }

pub aberr_at_varies : aberr_at (toward one) along ≢ aberr_at (toward half) along
unfolding computed
aberr_at_varies = apart of_asc refl

pub another_light_excluded : another_light (toward one) along ≢ aberr_at (toward one) along
unfolding computed
another_light_excluded = apart of_asc refl

pub cosine_of_declination_missing_excluded : cosine_of_declination_missing (toward half) along ≢ aberr_at (toward half) along
unfolding computed
cosine_of_declination_missing_excluded = apart of_asc refl

pub declination_not_steep_excluded : declination_not_steep north_pole epoch ≢ stell_aberr_in_eq_coords_rule north_pole epoch
unfolding computed
declination_not_steep_excluded = apart (of_answer unread) refl
