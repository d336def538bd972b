-- Every star's status is one that the tally knows.
use Rattle.std.specs.Prelude.{ℕ, ◌≤◌, Float}
use Rattle.std.proofs.Common.{arith, sym, subst}
use Rattle.quantity.specs.declared.Rad.{Rad}
use Rattle.quantity.specs.declared.EqPoint.{EqPoint}
use Rattle.quantity.specs.rules.Answer.{Pair, number, checked, checked_by, status_of}
use Rattle.edition.specs.declared.Edition.{Edition}
use Rattle.precess_angles.specs.declared.EqPrecession.{EqPrecession}
use Rattle.precess.specs.rules.Equatorial.{precessed_from, precessed_in}
use Rattle.nutation_table.specs.rules.Day.{nutation_of}
use Rattle.chain.specs.declared.Night.{Night}
use Rattle.chain.specs.rules.Obliquity.{mean_obliquity_of, true_obliquity}
use Rattle.chain.specs.laws.Point.{angles_named}
use Rattle.chain.specs.rules.Night.{night_from, night_of, moved, moved_under, point_under_by, place_under_by}
use Rattle.list_tally.specs.rules.Status.{highest_status}
use Rattle.list.specs.declared.Star.{Star}
use Rattle.star_place.specs.rules.Place.{asc_of, dec_of}
use Rattle.star_store.specs.laws.Known.{known_lower, known_unless, known_then, known_plus, known_both, known_angle, known_steep, known_arctangent}
use Rattle.star_store.specs.laws.Known.{known_arcsine, known_star}
use Rattle.batch.specs.rules.Star.{star_under_by, star_under}

known_precessed : (asc dec : Rad) (precession : EqPrecession) → status_of (precessed_in asc dec precession) ≤ highest_status
unfolding precessed_in precessed_from
known_precessed asc dec precession = known_both _ _ (known_plus _ _ (known_arctangent _ _)) (known_arcsine _)

known_night : (edition : Edition) (day1 day2 : Float) → checked (night_of edition day1 day2).check ≤ highest_status
unfolding night_of night_from
known_night edition day1 day2 =
    let n = nutation_of day2 in
    let oblq = true_obliquity (mean_obliquity_of day2) n.oblq in
    subst (λ (k : ℕ). k ≤ highest_status) (sym (angles_named n oblq)) (known_lower _ _ (known_angle _) (known_lower _ _ (known_angle _) (known_angle _)))

module _ {E : Type 0} (f : E → ℕ) (night : Night E) (h : checked_by f night.check ≤ highest_status) where
  known_at : (p : EqPoint) → status_of (point_under_by f p night) ≤ highest_status
  unfolding point_under_by moved_under moved
  known_at p = known_unless _ _ (known_lower _ _ (known_lower _ _ (known_angle _) (known_steep _)) h) (omega arith)

  known_in : (asc dec : Rad) → status_of (place_under_by f asc dec night) ≤ highest_status
  unfolding place_under_by
  known_in asc dec = known_then _ _ (known_precessed asc dec night.precession) (λ (p : Pair). known_at _)

pub known_under : (edition : Edition) (star : Star) (day1 day2 years : Float)
    → status_of (star_under star (night_of edition day1 day2) years) ≤ highest_status
unfolding star_under_by
known_under edition star day1 day2 years =
    known_star star years _ (known_in number (night_of edition day1 day2) (known_night edition day1 day2) (asc_of star years) (dec_of star years))
