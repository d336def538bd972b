-- `rotation::rotated_two` meets its contract.
use Rattle.rotation.specs.rules.Place.{rotated_two}
use Rattle.rotation.proofs.rotated_two.Goals as goal

pub returns : goal.returns
unfolding rotated_two
returns c =
    rw (c.arcs_two-arcs.ensures, c.arcsine_root-root2.ensures, c.arcsine_root-root.ensures, c.arcs_refusal-second_check.ensures, c.arcs_refusal-first_check.ensures, c.vector_under-w.ensures, c.vector_under-v.ensures)
