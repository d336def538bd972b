-- A star's heading as the public rules give it, one after the other, each with its own refusals.
use Rattle.std.specs.Prelude.{ℕ, ℤ, Float}
use Rattle.double.specs.rules.Operations.{◌⊕◌}
use Rattle.quantity.specs.declared.Deg.{Deg}
use Rattle.quantity.specs.declared.Rad.{Rad}
use Rattle.quantity.specs.rules.Angle.{deg, rad}
use Rattle.quantity.specs.rules.Answer.{Answer, answered, Pair, first, second, Triple, triple, then}
use Rattle.edition.specs.declared.Edition.{Edition}
use Rattle.units.specs.rules.Degrees.{to_degrees}
use Rattle.helpers.specs.rules.Angle.{limit_to_360_rule}
use Rattle.coords.specs.rules.HourAngle.{hr_angl_frm_observer_long_rule}
use Rattle.coords.specs.rules.Horizon.{az_frm_eq_rule, alt_frm_eq_rule}
use Rattle.batch.specs.rules.Star.{star_rule}
use Rattle.sidereal.specs.rules.Apparent.{apparent_sidereal_rule}
use Rattle.helpers.specs.rules.Circle.{half_turn, below_turn}
use Rattle.heading.specs.rules.Heading.{record_of}

-- the turn from south to north, by `limit_to_360`
abbrev pub turned_rule : Rad → Rad → Answer Triple
turned_rule az alt =
    then (limit_to_360_rule (deg ((to_degrees az).0 ⊕ half_turn))) (λ (x : Deg). answered (triple (below_turn x).0 (to_degrees az).0 (to_degrees alt).0))

abbrev pub in_sky_rule : Rad → Rad → Rad → Answer Triple
in_sky_rule h dec lat = then (az_frm_eq_rule h dec lat) (λ (az : Rad). then (alt_frm_eq_rule h dec lat) (λ (alt : Rad). turned_rule az alt))

abbrev pub composed : Edition → ℕ → ℤ → ℤ → ℤ → Float → Float → Rad → Rad → Answer Triple
composed edition asc dec ascRate decRate day1 day2 long lat =
    then (star_rule edition (record_of asc dec ascRate decRate) day1 day2)
    (λ (p : Pair). then (apparent_sidereal_rule day2)
    (λ (sidereal : Rad). then (hr_angl_frm_observer_long_rule sidereal long (rad (first p)))
    (λ (h : Rad). in_sky_rule h (rad (second p)) lat)))
