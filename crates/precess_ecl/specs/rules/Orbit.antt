-- Precession of orbital elements (Meeus, chapter 24): inclination, argument of perihelion, longitude of the ascending node.
use Rattle.std.specs.Prelude.{ℕ, cond, Float}
use Rattle.std.specs.Float.Ieee.{neg, eq}
use Rattle.double.specs.rules.Operations.{zero, ◌⊕◌, ◌⊖◌, ◌⊗◌, ◌⊘◌}
use Rattle.quantity.specs.declared.Rad.{Rad}
use Rattle.quantity.specs.rules.Angle.{rad, PI}
use Rattle.quantity.specs.rules.Answer.{Answer, answered, refused, Pair, first, second, Triple, triple, unless, then, added_to, both}
use Rattle.quantity.specs.rules.Refusal.{lower, angle_refusal}
use Rattle.root.specs.rules.Root.{root_rule}
use Rattle.elementary.specs.declared.Folded.{Folded}
use Rattle.elementary.specs.rules.Fold.{fold}
use Rattle.elementary.specs.rules.Sine.{folded_sine, folded_cosine, sine_of}
use Rattle.elementary_arc.specs.rules.Arctangent.{arctangent_in}
use Rattle.elementary_arc.specs.rules.Arcsine.{arcsine_in}
use Rattle.precess_ecl.specs.declared.EclPrecession.{EclPrecession}
use Rattle.precess_ecl.specs.declared.Leaned.{Leaned}
use Rattle.precess_angles.specs.rules.Days.{days_refusal}
use Rattle.precess_ecl.specs.rules.Ecliptic.{ecl_precession_of}

-- A and B, from the inclination i and n, the node less Pi
unfoldable pub leaned_of : Folded → Folded → EclPrecession → Leaned
leaned_of i n precession =
    record {
      a = folded_sine i ⊗ folded_sine n;
      b = neg precession.sine ⊗ folded_cosine i ⊕ precession.cosine ⊗ folded_sine i ⊗ folded_cosine n;
    }

-- nu where the old inclination is zero, else the arcsine of the root of A·A + B·B
unfoldable pub new_inclination : Rad → Leaned → EclPrecession → Answer Rad
new_inclination inc l precession =
    cond (eq inc.0 zero) (answered precession.nu) (then (root_rule (l.a ⊗ l.a ⊕ l.b ⊗ l.b)) arcsine_in)

-- phi + PI where the old inclination is zero, else phi + the arctangent of (A, B)
unfoldable pub new_node : Rad → Leaned → EclPrecession → Answer Rad
new_node inc l precession =
    let phi = precession.pi.0 ⊕ precession.rho.0 in
    cond (eq inc.0 zero) (answered (rad (phi ⊕ PI))) (added_to (rad phi) (arctangent_in l.a l.b))

-- s is the sine of the new inclination
unfoldable pub node_and_perihelion : Float → Answer Rad → Rad → Folded → EclPrecession → Answer Pair
node_and_perihelion s node perih n precession =
    both node (added_to perih (arcsine_in (neg precession.sine ⊗ folded_sine n ⊘ s)))

-- 6 where the sine of the new inclination i is zero
unfoldable pub orbit_from : Rad → Answer Rad → Rad → Folded → EclPrecession → Answer Triple
orbit_from i node perih n precession =
    let s = sine_of i in
    cond (eq s zero) (refused 6)
    (then (node_and_perihelion s node perih n precession) (λ (p : Pair). answered (triple i.0 (second p) (first p))))

unfoldable pub orbit_in : Rad → Rad → Rad → EclPrecession → Answer Triple
orbit_in inc perih node precession =
    let n = fold (rad (node.0 ⊖ precession.pi.0)) in
    let l = leaned_of (fold inc) n precession in
    then (new_inclination inc l precession) (λ (i : Rad). orbit_from i (new_node inc l precession) perih n precession)

abbrev pub orbit_refusal : Rad → Rad → Rad → Float → Float → ℕ
orbit_refusal inc perih node day1 day2 =
    lower (lower (angle_refusal inc) (lower (angle_refusal perih) (angle_refusal node))) (days_refusal day1 day2)

abbrev pub precess_orb_elements_rule : Rad → Rad → Rad → Float → Float → Answer Triple
precess_orb_elements_rule inc perih node day1 day2 =
    unless (orbit_refusal inc perih node day1 day2) (orbit_in inc perih node (ecl_precession_of day1 day2))
