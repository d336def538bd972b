-- The chain at stated stars, from 2415020.0 to 2451545.0: it answers, and varies, and by the mean obliquity it answers otherwise.
-- Nutation and the Earth's velocity on that day are worked out once, row by row.
use Rattle.std.specs.Prelude.{◌≡◌, refl, Float, ◌≢◌}
use Rattle.std.proofs.Common.{sym, subst, ◌∙◌}
use Rattle.double.specs.laws.Apart.{apart}
use Rattle.quantity.specs.declared.Rad.{Rad}
use Rattle.quantity.specs.rules.Angle.{rad}
use Rattle.quantity.specs.rules.Answer.{Answer, answered, Pair, pair, first, second, unless, then}
use Rattle.quantity.specs.rules.Refusal.{epoch, day_refusal}
use Rattle.quantity.specs.notions.Code.{of_answer, of_first}
use Rattle.quantity.specs.notions.Stated.{r0, r1, earlier}
use Rattle.quantity.specs.notions.Varies.{Varies}
use Rattle.edition.specs.declared.Edition.{Edition}
use Rattle.edition.specs.declared.Edition.TheVariants.{Crate}
use Rattle.elementary.specs.rules.Direction.{direction_of}
use Rattle.precess.specs.rules.Equatorial.{precess_eq_coords_rule}
use Rattle.nutation_args.specs.declared.Nutations.{Nutations}
use Rattle.nutation_args.specs.notions.Computed as args
use Rattle.nutation_table.specs.rules.Day.{nutation_of}
use Rattle.nutation.specs.rules.Day.{nutation_rule}
use Rattle.nutation.specs.rules.Point.{nutation_in_eq_coords_in, nutation_in_eq_coords_rule}
use Rattle.aberr_args.specs.declared.Velocity.{Velocity}
use Rattle.aberr_table.specs.rules.Velocity.{velocity_of}
use Rattle.aberr_table.specs.notions.Computed as table
use Rattle.aberr.specs.rules.Star.{aberr_at, stell_aberr_refusal, stell_aberr_in_eq_coords_in, stell_aberr_in_eq_coords_rule}
use Rattle.chain.specs.rules.Obliquity.{mean_obliquity_of, true_obliquity}
use Rattle.chain.specs.rules.Chain.{point, sum, chain_rule}
use Rattle.chain.specs.notions.Computed.{computed}
use Rattle.chain.specs.notions.Epoch.{nutation, velocity}
use Rattle.chain.specs.notions.Wrong.{mean_for_true, chain_by}

pub nutation_of_the_epoch : nutation_of epoch ≡ nutation
unfolding args.computed nutation_of
nutation_of_the_epoch = refl

pub velocity_of_the_epoch : velocity_of epoch ≡ velocity
unfolding table.computed
velocity_of_the_epoch = refl

-- the chain by the true obliquity is the chain
pub chain_by_true : (edition : Edition) (asc dec : Rad) (day1 day2 : Float)
    → chain_by true_obliquity edition asc dec day1 day2 ≡ chain_rule edition asc dec day1 day2
unfolding chain_rule
chain_by_true edition asc dec day1 day2 = refl

-- of a star of the equator, from nutation and velocity in numbers
abbrev chain_from : (Rad → Rad → Rad) → Rad → Nutations → Velocity → Answer Pair
chain_from obliquity asc n v =
    then (precess_eq_coords_rule Crate asc r0 earlier epoch)
    (λ (p : Pair). then (unless (day_refusal epoch) (answered (pair n.long.0 n.oblq.0)))
    (λ (m : Pair). then (nutation_in_eq_coords_rule (point p) (rad (first m)) (rad (second m)) (obliquity (mean_obliquity_of epoch) (rad (second m))))
    (λ (dn : Pair). then
    (unless (stell_aberr_refusal (point p) epoch)
    (answered (pair (aberr_at (direction_of (point p)) v).asc.0 (aberr_at (direction_of (point p)) v).dec.0)))
    (λ (da : Pair). answered (sum p dn da)))))

from_them : (obliquity : Rad → Rad → Rad) (asc : Rad)
    → chain_by obliquity Crate asc r0 earlier epoch ≡ chain_from obliquity asc (nutation_of epoch) (velocity_of epoch)
unfolding nutation_rule stell_aberr_in_eq_coords_in stell_aberr_in_eq_coords_rule
from_them obliquity asc = refl

worked_out : (obliquity : Rad → Rad → Rad) (asc : Rad)
    → chain_by obliquity Crate asc r0 earlier epoch ≡ chain_from obliquity asc nutation velocity
worked_out obliquity asc =
    from_them obliquity asc ∙ (λ i. chain_from obliquity asc (nutation_of_the_epoch i) (velocity_of_the_epoch i))

chain_worked_out : (asc : Rad) → chain_from true_obliquity asc nutation velocity ≡ chain_rule Crate asc r0 earlier epoch
chain_worked_out asc = sym (worked_out true_obliquity asc) ∙ chain_by_true Crate asc r0 earlier epoch

-- ---- at right ascensions 0.0 and 1.0

varies : Varies (chain_from true_obliquity r0 nutation velocity) (chain_from true_obliquity r1 nutation velocity)
unfolding computed nutation_in_eq_coords_in nutation_in_eq_coords_rule
varies = record { here = refl; there = refl; apart = apart (of_answer of_first) refl }

pub chain_varies : Varies (chain_rule Crate r0 r0 earlier epoch) (chain_rule Crate r1 r0 earlier epoch)
chain_varies =
    subst (λ (a : Answer Pair). Varies (chain_rule Crate r0 r0 earlier epoch) a) (chain_worked_out r1)
    (subst (λ (a : Answer Pair). Varies a (chain_from true_obliquity r1 nutation velocity)) (chain_worked_out r0) varies)

differ : chain_from mean_for_true r1 nutation velocity ≢ chain_from true_obliquity r1 nutation velocity
unfolding computed nutation_in_eq_coords_in nutation_in_eq_coords_rule
differ = apart (of_answer of_first) refl

pub chain_by_mean_excluded : chain_by mean_for_true Crate r1 r0 earlier epoch ≢ chain_rule Crate r1 r0 earlier epoch
chain_by_mean_excluded e = differ (sym (worked_out mean_for_true r1) ∙ e ∙ sym (chain_worked_out r1))
