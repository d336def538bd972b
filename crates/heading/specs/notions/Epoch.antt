-- A star's heading on the day 2451545.0, its place being that of 2415020.0, from nutation and the Earth's velocity in numbers.
use Rattle.quantity.specs.declared.Rad.{Rad}
use Rattle.quantity.specs.rules.Angle.{rad}
use Rattle.quantity.specs.rules.Answer.{Answer, Pair, first, second, Triple, then}
use Rattle.quantity.specs.rules.Refusal.{epoch}
use Rattle.quantity.specs.notions.Stated.{earlier}
use Rattle.edition.specs.declared.Edition.{Edition}
use Rattle.precess_angles.specs.rules.Equatorial.{eq_precession_of}
use Rattle.nutation_args.specs.declared.Nutations.{Nutations}
use Rattle.aberr_args.specs.declared.Velocity.{Velocity}
use Rattle.chain.specs.rules.Obliquity.{mean_obliquity_of, true_obliquity}
use Rattle.chain.specs.rules.Night.{night_from}
use Rattle.list.specs.declared.Star.{Star}
use Rattle.star_place.specs.rules.Place.{years_between}
use Rattle.batch.specs.rules.Star.{star_under}
use Rattle.sidereal.specs.rules.Mean.{mean_of}
use Rattle.sidereal.specs.rules.Apparent.{apparent_from}
use Rattle.heading.specs.rules.Sky.{sky_under}

abbrev pub place_from : Edition → Star → Nutations → Velocity → Answer Pair
place_from edition star n v =
    star_under star (night_from (eq_precession_of edition earlier epoch) n (true_obliquity (mean_obliquity_of epoch) n.oblq) v) (years_between earlier epoch)

abbrev pub heading_from : Edition → Star → Rad → Rad → Nutations → Velocity → Answer Triple
heading_from edition star long lat n v =
    then (place_from edition star n v)
    (λ (p : Pair). sky_under (apparent_from (mean_of epoch) n (mean_obliquity_of epoch)) (rad (first p)) (rad (second p)) long lat)
