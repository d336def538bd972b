-- The chain: the rules of its steps, one after the other. Every step's refusal is the chain's.
use Rattle.std.specs.Prelude.{ℕ, Float}
use Rattle.double.specs.rules.Operations.{◌⊕◌}
use Rattle.quantity.specs.declared.Rad.{Rad}
use Rattle.quantity.specs.declared.EqPoint.{EqPoint}
use Rattle.quantity.specs.rules.Angle.{rad}
use Rattle.quantity.specs.rules.Answer.{Answer, answered, Pair, pair, first, second, then}
use Rattle.quantity.specs.rules.Refusal.{lower, angle_refusal, steep_refusal}
use Rattle.edition.specs.declared.Edition.{Edition}
use Rattle.precess.specs.rules.Equatorial.{precess_eq_coords_rule}
use Rattle.nutation_args.specs.declared.Nutations.{Nutations}
use Rattle.nutation.specs.rules.Day.{nutation_rule}
use Rattle.nutation.specs.rules.Point.{nutation_in_eq_coords_rule}
use Rattle.aberr.specs.rules.Star.{stell_aberr_in_eq_coords_rule}
use Rattle.chain.specs.rules.Obliquity.{mean_obliquity_of, true_obliquity}

abbrev pub point : Pair → EqPoint
point p = record { asc = first p; dec = second p }

-- (precessed + nutation) + aberration, in each coordinate
abbrev pub sum : Pair → Pair → Pair → Pair
sum p n a = pair ((first p ⊕ first n) ⊕ first a) ((second p ⊕ second n) ⊕ second a)

-- nutation and aberration at the precessed point p, nutation n being that of the second day; the obliquity is the true one on that day
abbrev pub from_point : Pair → Pair → Float → Answer Pair
from_point p n day2 =
    then (nutation_in_eq_coords_rule (point p) (rad (first n)) (rad (second n))
    (true_obliquity (mean_obliquity_of day2) (rad (second n))))
    (λ (dn : Pair). then (stell_aberr_in_eq_coords_rule (point p) day2) (λ (da : Pair). answered (sum p dn da)))

unfoldable pub chain_rule : Edition → Rad → Rad → Float → Float → Answer Pair
chain_rule edition asc dec day1 day2 =
    then (precess_eq_coords_rule edition asc dec day1 day2)
    (λ (p : Pair). then (nutation_rule day2) (λ (n : Pair). from_point p n day2))

-- what the two steps at the precessed point refuse of it, and of the three angles
abbrev pub point_refusal : EqPoint → ℕ
point_refusal p = lower (angle_refusal (rad p.asc)) (steep_refusal (rad p.dec))

abbrev pub angles_refusal : Nutations → Rad → ℕ
angles_refusal n oblq = lower (angle_refusal n.long) (lower (angle_refusal n.oblq) (angle_refusal oblq))
