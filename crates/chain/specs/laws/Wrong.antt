-- Wrong variants are excluded: each differs from the rule at the input stated. A rule varies: a library that refuses everything, or
-- answers a constant, does not meet it.
use Rattle.std.specs.Prelude.{refl, Float, ◌≢◌}
use Rattle.std.specs.Float.Ieee.{neg}
use Rattle.double.specs.rules.Operations.{bits, zero, one}
use Rattle.double.specs.notions.Greatest.{greatest}
use Rattle.double.specs.notions.Code.{of_number}
use Rattle.double.specs.laws.Apart.{apart}
use Rattle.quantity.specs.declared.Shift.{Shift}
use Rattle.quantity.specs.declared.Refusal.{Refusal}
use Rattle.quantity.specs.rules.Angle.{rad}
use Rattle.quantity.specs.rules.Refusal.{epoch}
use Rattle.quantity.specs.declared.EqPoint.{EqPoint}
use Rattle.quantity.specs.notions.Code.{of_float, of_deg, of_rad, of_answer, of_first, unread}
use Rattle.quantity.specs.notions.Stated.{r0, r1, earlier, later, origin, north_pole}
use Rattle.quantity.specs.notions.Varies.{Varies}
use Rattle.edition.specs.declared.Edition.{Edition}
use Rattle.edition.specs.declared.Edition.TheVariants.{Crate, Published}
use Rattle.chain.specs.declared.Night.{Night}
use Rattle.chain.specs.rules.Obliquity.{mean_obliquity, mean_obliquity_of, true_obliquity}
use Rattle.chain.specs.rules.Chain.{point_refusal, chain_rule}
use Rattle.chain.specs.rules.Night.{night_of, moved, point_under, place_under}
use Rattle.chain.specs.notions.Computed.{computed}
use Rattle.chain.specs.notions.Still.{still}
use Rattle.chain.specs.notions.Wrong.{obliquity_of_one_day, last_term_added, mean_for_true, nutation_taken_away, night_of_one_day, precessed_point_not_steep}
use Rattle.chain.specs.notions.Wrong.{aberration_added_first, angles_of_the_night_not_tested, place_not_refused}

abbrev shift : Float → Shift
shift x = record { asc = rad x; dec = r0 }

-- ---- what a day or two fix

pub obliquity_of_one_day_excluded : obliquity_of_one_day later ≢ mean_obliquity_of later
unfolding computed
obliquity_of_one_day_excluded = apart of_rad refl

-- at the century 1.0
pub last_term_added_excluded : last_term_added one ≢ mean_obliquity one
unfolding computed
last_term_added_excluded = apart of_deg refl

pub mean_for_true_excluded : mean_for_true r1 r1 ≢ true_obliquity r1 r1
unfolding computed
mean_for_true_excluded = apart of_rad refl

pub nutation_taken_away_excluded : nutation_taken_away r1 r1 ≢ true_obliquity r1 r1
unfolding computed
nutation_taken_away_excluded = apart of_rad refl

pub night_of_one_day_excluded : (edition : Edition) → night_of_one_day edition epoch later ≢ night_of edition epoch later
unfolding computed
night_of_one_day_excluded edition = apart (λ (n : Night Refusal). of_rad n.precession.xi) refl

-- an edition ignored, over the century that ends at 2451545.0
pub night_by_edition : night_of Published earlier epoch ≢ night_of Crate earlier epoch
unfolding computed
night_by_edition = apart (λ (n : Night Refusal). of_rad n.precession.zeta) refl

-- ---- a star under a night

pub precessed_point_not_steep_excluded : precessed_point_not_steep north_pole ≢ point_refusal north_pole
unfolding computed
precessed_point_not_steep_excluded = apart of_number refl

-- 1.0, −1.0 and 2^−60
pub aberration_added_first_excluded : aberration_added_first (record { asc = one; dec = zero }) (shift (neg one)) (shift (bits 0x3c30000000000000))
    ≢ moved (record { asc = one; dec = zero }) (shift (neg one)) (shift (bits 0x3c30000000000000))
unfolding computed
aberration_added_first_excluded = apart (λ (p : EqPoint). of_float p.asc) refl

pub angles_of_the_night_not_tested_excluded : angles_of_the_night_not_tested origin (still 3) ≢ point_under origin (still 3)
unfolding computed
angles_of_the_night_not_tested_excluded = apart (of_answer unread) refl

pub place_under_varies : Varies (place_under r0 r0 (still 0)) (place_under r1 r0 (still 0))
unfolding computed
place_under_varies = record { here = refl; there = refl; apart = apart (of_answer of_first) refl }

-- ---- the chain

pub place_not_refused_excluded : (edition : Edition) → place_not_refused edition r0 r0 epoch greatest ≢ chain_rule edition r0 r0 epoch greatest
unfolding computed
place_not_refused_excluded Crate = apart (of_answer unread) refl
place_not_refused_excluded Published = apart (of_answer unread) refl
