-- `precess_arcs::arcs_two` meets its contract.
use Rattle.elementary_arc.specs.rules.Level.{arctangents_of}
use Rattle.precess_arcs.specs.rules.Arcs.{arcs_two}
use Rattle.precess_arcs.proofs.arcs_two.Goals as goal

pub returns : goal.returns
unfolding arcs_two arctangents_of
returns c = rw (c.arctangents_of-decs.ensures, c.arctangents_of-ascs.ensures)
