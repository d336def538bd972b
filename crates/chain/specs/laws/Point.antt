-- A point within its limits is taken; and what refuses a point, or three angles, is a number of the table.
use Rattle.std.specs.Prelude.{◌≡◌}
use Rattle.std.specs.Float.Ieee.{le, of_bits}
use Rattle.double.specs.rules.Sign.{size}
use Rattle.double.specs.rules.Order.{◌≼◌}
use Rattle.double.specs.laws.Order.{le_trans}
use Rattle.quantity.specs.declared.EqPoint.{EqPoint}
use Rattle.quantity.specs.declared.Rad.{Rad}
use Rattle.quantity.specs.rules.Angle.{HALF, rad}
use Rattle.quantity.specs.notions.Named.{IsNamed}
use Rattle.quantity.specs.laws.Answer.{named_lower, named_angle, named_steep}
use Rattle.quantity.specs.rules.Refusal.{lower, farthest, steepest, angle_refusal, latitude_refusal, steep_refusal}
use Rattle.quantity.specs.laws.Refusal.{finite_farthest, finite_half, finite_steepest, past_none}
use Rattle.nutation_args.specs.declared.Nutations.{Nutations}
use Rattle.chain.specs.rules.Chain.{point_refusal, angles_refusal}

steepest_below_half : steepest ≼ HALF
unfolding le of_bits
steepest_below_half = tt

pub point_taken : (p : EqPoint) → size p.asc ≼ farthest → size p.dec ≼ steepest → point_refusal p ≡ 0
unfolding angle_refusal latitude_refusal steep_refusal
point_taken p a d =
    rw (
      past_none p.asc farthest 3 finite_farthest a,
      past_none p.dec HALF 3 finite_half (le_trans (size p.dec) steepest HALF d steepest_below_half),
      past_none p.dec steepest 4 finite_steepest d,
    )

pub point_named : (p : EqPoint) → IsNamed (point_refusal p)
point_named p =
    named_lower (angle_refusal (rad p.asc)) (steep_refusal (rad p.dec)) (named_angle (rad p.asc)) (named_steep (rad p.dec))

pub angles_named : (n : Nutations) (oblq : Rad) → IsNamed (angles_refusal n oblq)
angles_named n oblq =
    named_lower (angle_refusal n.long) (lower (angle_refusal n.oblq) (angle_refusal oblq)) (named_angle n.long)
    (named_lower (angle_refusal n.oblq) (angle_refusal oblq) (named_angle n.oblq) (named_angle oblq))
