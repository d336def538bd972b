-- Wrong variants are excluded: each differs from the rule at the input stated. A rule varies: a library that refuses everything, or
-- answers a constant, does not meet it.
use Rattle.std.specs.Prelude.{refl, ◌≢◌}
use Rattle.double.specs.laws.Apart.{apart}
use Rattle.quantity.specs.rules.Refusal.{epoch}
use Rattle.quantity.specs.notions.Code.{of_pair, of_triple, of_answer}
use Rattle.quantity.specs.notions.Varies.{Varies}
use Rattle.quantity.specs.notions.Stated.{r0, r½, r1, earlier}
use Rattle.precess_ecl.specs.declared.EclPrecession.{EclPrecession}
use Rattle.precess_ecl.specs.rules.Ecliptic.{ecl_precession_of, precess_ecl_coords_rule}
use Rattle.precess_ecl.specs.rules.Orbit.{precess_orb_elements_rule}
use Rattle.precess_ecl.specs.notions.Computed.{computed}
use Rattle.precess_ecl.specs.notions.Wrong.{ecliptic_longitude_without_rho, node_without_half_a_turn, node_before_the_test, perihelion_and_node_traded}

-- ---- ecliptic coordinates

pub precess_ecl_coords_varies : Varies (precess_ecl_coords_rule r½ r0 epoch epoch) (precess_ecl_coords_rule r0 r0 epoch epoch)
unfolding computed
precess_ecl_coords_varies = record { here = refl; there = refl; apart = apart (of_answer of_pair) refl }

pub ecliptic_longitude_without_rho_excluded : ecliptic_longitude_without_rho r0 r0 epoch epoch ≢ precess_ecl_coords_rule r0 r0 epoch epoch
unfolding computed
ecliptic_longitude_without_rho_excluded = apart (of_answer of_pair) refl

-- ---- orbital elements

pub precess_orb_elements_varies : Varies (precess_orb_elements_rule r1 r0 r0 epoch epoch) (precess_orb_elements_rule r½ r0 r0 epoch epoch)
unfolding computed
precess_orb_elements_varies = record { here = refl; there = refl; apart = apart (of_answer of_triple) refl }

pub node_without_half_a_turn_excluded : node_without_half_a_turn r0 r0 r0 earlier epoch ≢ precess_orb_elements_rule r0 r0 r0 earlier epoch
unfolding computed
node_without_half_a_turn_excluded = apart (of_answer of_triple) refl

-- an orbit in the second day's ecliptic: A and B are zero
abbrev precession : EclPrecession
precession = ecl_precession_of earlier epoch

pub node_before_the_test_excluded : node_before_the_test precession.nu r0 precession.pi earlier epoch
    ≢ precess_orb_elements_rule precession.nu r0 precession.pi earlier epoch
unfolding computed
node_before_the_test_excluded = apart (of_answer of_triple) refl

pub perihelion_and_node_traded_excluded : perihelion_and_node_traded r0 r0 r0 earlier epoch ≢ precess_orb_elements_rule r0 r0 r0 earlier epoch
unfolding computed
perihelion_and_node_traded_excluded = apart (of_answer of_triple) refl
