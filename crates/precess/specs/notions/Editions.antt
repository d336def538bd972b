-- Each edition's precession by its angles, the crate's as it was before there were two.
use Rattle.std.specs.Prelude.{Float}
use Rattle.quantity.specs.declared.Deg.{Deg}
use Rattle.quantity.specs.declared.Rad.{Rad}
use Rattle.quantity.specs.rules.Answer.{Answer, Pair, unless}
use Rattle.precess_angles.specs.declared.EqAngles.{EqAngles}
use Rattle.precess_angles.specs.rules.Days.{place_refusal}
use Rattle.precess_angles.specs.rules.Equatorial.{precession_by}
use Rattle.precess_angles.specs.notions.Editions.{angles_by, fk4_angles_by}
use Rattle.precess.specs.rules.Equatorial.{precessed_in}

-- of a place, by the angles of its days
abbrev by : (Float → Float → EqAngles) → Rad → Rad → Float → Float → Answer Pair
by angles asc dec day1 day2 = unless (place_refusal asc dec day1 day2) (precessed_in asc dec (precession_by (angles day1 day2)))

-- by a second and a third angle
abbrev pub precessed_by : (Float → Float → Deg) → (Float → Float → Deg) → Rad → Rad → Float → Float → Answer Pair
precessed_by zeta theta = by (angles_by zeta theta)

-- in the FK4 system, by what becomes of each angle
abbrev pub fk4_precessed_by : (Deg → Rad) → Rad → Rad → Float → Float → Answer Pair
fk4_precessed_by angle = by (fk4_angles_by angle)
