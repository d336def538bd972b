-- Wrong variants of precession of the ecliptic.
use Rattle.std.specs.Prelude.{cond, Float}
use Rattle.std.specs.Float.Ieee.{eq}
use Rattle.double.specs.rules.Operations.{zero, ◌⊕◌, ◌⊖◌}
use Rattle.quantity.specs.declared.Rad.{Rad}
use Rattle.quantity.specs.rules.Angle.{rad}
use Rattle.quantity.specs.rules.Answer.{Answer, answered, Pair, Triple, triple, unless, with, then}
use Rattle.elementary.specs.rules.Fold.{fold}
use Rattle.precess_angles.specs.rules.Days.{place_refusal}
use Rattle.precess_ecl.specs.rules.Ecliptic.{ecl_precession_of, ecl_precessed_in}
use Rattle.precess_ecl.specs.rules.Orbit.{leaned_of, new_inclination, new_node, orbit_from, orbit_refusal, precess_orb_elements_rule}

-- ---- ecliptic coordinates

-- Pi in its place
abbrev pub ecliptic_longitude_without_rho : Rad → Rad → Float → Float → Answer Pair
ecliptic_longitude_without_rho long lat day1 day2 =
    let t = ecl_precession_of day1 day2 in
    unless (place_refusal long lat day1 day2)
    (ecl_precessed_in long lat (record { nu = t.nu; sine = t.sine; cosine = t.cosine; pi = t.pi; rho = t.pi }))

-- ---- orbital elements

-- where the old inclination is zero
abbrev pub node_without_half_a_turn : Rad → Rad → Rad → Float → Float → Answer Triple
node_without_half_a_turn inc perih node day1 day2 =
    let precession = ecl_precession_of day1 day2 in
    let n = fold (rad (node.0 ⊖ precession.pi.0)) in
    let l = leaned_of (fold inc) n precession in
    let new = cond (eq inc.0 zero) (answered (rad (precession.pi.0 ⊕ precession.rho.0))) (new_node inc l precession) in
    unless (orbit_refusal inc perih node day1 day2)
    (then (new_inclination inc l precession) (λ (i : Rad). orbit_from i new perih n precession))

-- the node's arctangent taken before the test of the sine: 14 before 6
abbrev pub node_before_the_test : Rad → Rad → Rad → Float → Float → Answer Triple
node_before_the_test inc perih node day1 day2 =
    let precession = ecl_precession_of day1 day2 in
    let n = fold (rad (node.0 ⊖ precession.pi.0)) in
    let l = leaned_of (fold inc) n precession in
    unless (orbit_refusal inc perih node day1 day2)
    (then (new_inclination inc l precession)
    (λ (i : Rad). then (new_node inc l precession) (λ (x : Rad). orbit_from i (answered x) perih n precession)))

abbrev traded : Triple → Triple
traded (triple i w x) = triple i x w

abbrev pub perihelion_and_node_traded : Rad → Rad → Rad → Float → Float → Answer Triple
perihelion_and_node_traded inc perih node day1 day2 = with traded (precess_orb_elements_rule inc perih node day1 day2)
