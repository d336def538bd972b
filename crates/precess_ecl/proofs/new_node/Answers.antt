-- `precess_ecl::new_node` meets its contract.
use Rattle.precess_ecl.specs.rules.Orbit.{new_node}
use Rattle.precess_ecl.proofs.new_node.Goals as goal

pub returns-then-inc : goal.returns-then-inc
unfolding new_node
returns-then-inc c = rw c.if-inc.true

pub returns : goal.returns
unfolding new_node
returns c = rw c.if-inc.false (rw c.arctangent_in.ensures at c.added_to.ensures)
