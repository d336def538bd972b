-- `elementary_arc::arc_by_signs` meets its contract.
use Rattle.elementary_arc.proofs.arc_by_signs.Goals as goal

pub returns : goal.returns
returns c =
    rw (c.size.ensures, c.supplement_if.ensures, c.bears_minus-2.ensures, c.bears_minus.ensures) at c.negated_if.ensures
