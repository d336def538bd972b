-- The chain as a night does it: what two days fix, and a star's reduction under it.
use Rattle.std.specs.Prelude.{ℕ, Float}
use Rattle.double.specs.rules.Operations.{◌⊕◌}
use Rattle.quantity.specs.declared.Rad.{Rad}
use Rattle.quantity.specs.declared.Refusal.{Refusal}
use Rattle.quantity.specs.declared.EqPoint.{EqPoint}
use Rattle.quantity.specs.declared.Shift.{Shift}
use Rattle.quantity.specs.rules.Answer.{Answer, answered, number, checked_by, named, Pair, pair, unless, then}
use Rattle.quantity.specs.rules.Refusal.{lower}
use Rattle.edition.specs.declared.Edition.{Edition}
use Rattle.elementary.specs.declared.Direction.{Direction}
use Rattle.elementary.specs.rules.Sine.{sine_of, cosine_of}
use Rattle.elementary.specs.rules.Direction.{direction_of}
use Rattle.precess_angles.specs.declared.EqPrecession.{EqPrecession}
use Rattle.precess_angles.specs.rules.Equatorial.{eq_precession_of}
use Rattle.precess.specs.rules.Equatorial.{precessed_in}
use Rattle.nutation_args.specs.declared.Nutations.{Nutations}
use Rattle.nutation_table.specs.rules.Day.{nutation_of}
use Rattle.nutation.specs.rules.Point.{nutation_at}
use Rattle.aberr_args.specs.declared.Velocity.{Velocity}
use Rattle.aberr_table.specs.rules.Velocity.{velocity_of}
use Rattle.aberr.specs.rules.Star.{aberr_at}
use Rattle.chain.specs.declared.Night.{Night}
use Rattle.chain.specs.rules.Obliquity.{mean_obliquity_of, true_obliquity}
use Rattle.chain.specs.rules.Chain.{point, point_refusal, angles_refusal}

unfoldable pub night_from : EqPrecession → Nutations → Rad → Velocity → Night Refusal
night_from precession n oblq v =
    record { precession = precession; nutation = n; sin_oblq = sine_of oblq; cos_oblq = cosine_of oblq; velocity = v; check = named (angles_refusal n oblq) }

unfoldable pub night_of : Edition → Float → Float → Night Refusal
night_of edition day1 day2 =
    let n = nutation_of day2 in
    night_from (eq_precession_of edition day1 day2) n (true_obliquity (mean_obliquity_of day2) n.oblq) (velocity_of day2)

unfoldable pub moved : EqPoint → Shift → Shift → EqPoint
moved p n a = record { asc = (p.asc ⊕ n.asc.0) ⊕ a.asc.0; dec = (p.dec ⊕ n.dec.0) ⊕ a.dec.0 }

-- a precessed point moved by nutation and aberration under a night, from its direction
unfoldable pub moved_under : {E : Type 0} → EqPoint → Direction → Night E → EqPoint
moved_under p d night = moved p (nutation_at d night.nutation night.sin_oblq night.cos_oblq) (aberr_at d night.velocity)

abbrev pub pair_of : EqPoint → Pair
pair_of p = pair p.asc p.dec

-- a precessed point, and a star's place, reduced under a night; f numbers the night's refusals, 0 being none
unfoldable pub point_under_by : {E : Type 0} → (E → ℕ) → EqPoint → Night E → Answer Pair
point_under_by f p night =
    unless (lower (point_refusal p) (checked_by f night.check)) (answered (pair_of (moved_under p (direction_of p) night)))

unfoldable pub place_under_by : {E : Type 0} → (E → ℕ) → Rad → Rad → Night E → Answer Pair
place_under_by f asc dec night = then (precessed_in asc dec night.precession) (λ (p : Pair). point_under_by f (point p) night)

-- a precessed point, and a star's place, reduced under a night whose refusals are the table's
abbrev pub point_under : EqPoint → Night Refusal → Answer Pair
point_under p night = point_under_by number p night

abbrev pub place_under : Rad → Rad → Night Refusal → Answer Pair
place_under asc dec night = place_under_by number asc dec night
