-- Wrong variants are excluded: each differs from the rule at the input stated. A rule varies: a library that refuses everything, or
-- answers a constant, does not meet it. What the editions share is worked out in the crate's.
use Rattle.std.specs.Prelude.{refl, Float, ◌≢◌}
use Rattle.double.specs.rules.Operations.{bits, zero}
use Rattle.double.specs.laws.Apart.{apart}
use Rattle.quantity.specs.declared.Rad.{Rad}
use Rattle.quantity.specs.rules.Angle.{rad}
use Rattle.quantity.specs.rules.Refusal.{epoch}
use Rattle.quantity.specs.notions.Code.{of_answer, of_first, of_second}
use Rattle.quantity.specs.notions.Varies.{Varies}
use Rattle.quantity.specs.notions.Stated.{r0, r½, earlier}
use Rattle.edition.specs.declared.Edition.TheVariants.{Crate, Published}
use Rattle.precess.specs.rules.Annual.{annual_precess_rule}
use Rattle.precess.specs.rules.Equatorial.{precess_eq_coords_rule, precess_eq_coords_FK5_rule}
use Rattle.precess.specs.notions.Computed.{computed}
use Rattle.precess.specs.notions.Wrong.{annual_tangent_is_sine, xi_taken_away, days_in_any_order, arcsine_first}

-- ---- annual precession

pub annual_precess_varies : Varies (annual_precess_rule r½ r0 epoch) (annual_precess_rule r0 r0 epoch)
unfolding computed
annual_precess_varies = record { here = refl; there = refl; apart = apart (of_answer of_second) refl }

pub annual_tangent_is_sine_excluded : annual_tangent_is_sine r½ r½ epoch ≢ annual_precess_rule r½ r½ epoch
unfolding computed
annual_tangent_is_sine_excluded = apart (of_answer of_first) refl

-- ---- equatorial coordinates

pub precess_eq_coords_varies : Varies (precess_eq_coords_rule Crate r½ r0 epoch epoch) (precess_eq_coords_rule Crate r0 r0 epoch epoch)
unfolding computed
precess_eq_coords_varies = record { here = refl; there = refl; apart = apart (of_answer of_first) refl }

-- an edition ignored
pub precess_eq_coords_by_edition : precess_eq_coords_rule Published r0 r0 earlier epoch ≢ precess_eq_coords_rule Crate r0 r0 earlier epoch
unfolding computed
precess_eq_coords_by_edition = apart (of_answer of_first) refl

pub xi_taken_away_excluded : xi_taken_away Crate r0 r0 earlier epoch ≢ precess_eq_coords_rule Crate r0 r0 earlier epoch
unfolding computed
xi_taken_away_excluded = apart (of_answer of_first) refl

-- the day 0.0 is 2451545 days from the epoch
pub days_in_any_order_excluded : days_in_any_order Crate r0 r0 epoch zero ≢ precess_eq_coords_rule Crate r0 r0 epoch zero
unfolding computed
days_in_any_order_excluded = apart (of_answer of_first) refl

-- from the epoch to 2558198.0, at the point that comes to the pole: both arguments of the arctangent are zero, and the arcsine's is the
-- next double above 1.0
abbrev asc : Rad
asc = rad (bits 0xbfa0b92c872917e9)

abbrev dec : Rad
dec = rad (bits 0x3ff8addaab05aec1)

abbrev day : Float
day = bits 0x4143847b00000000

pub arcsine_first_excluded : arcsine_first Crate asc dec epoch day ≢ precess_eq_coords_rule Crate asc dec epoch day
unfolding computed
arcsine_first_excluded = apart (of_answer of_first) refl

-- ---- equatorial coordinates of the FK4 system

pub precess_eq_coords_FK5_varies : Varies (precess_eq_coords_FK5_rule Crate r½ r0 epoch epoch) (precess_eq_coords_FK5_rule Crate r0 r0 epoch epoch)
unfolding computed
precess_eq_coords_FK5_varies = record { here = refl; there = refl; apart = apart (of_answer of_first) refl }

-- the angles converted in the crate's edition, or taken for radians in the published one
pub precess_eq_coords_FK5_by_edition : precess_eq_coords_FK5_rule Published r0 r0 earlier epoch ≢ precess_eq_coords_FK5_rule Crate r0 r0 earlier epoch
unfolding computed
precess_eq_coords_FK5_by_edition = apart (of_answer of_first) refl
