-- `elementary_arc::atn` meets its contract.
use Rattle.elementary_arc.proofs.atn.Goals as goal

pub returns-then-v : goal.returns-then-v
returns-then-v c = rw c.if-v.true c.arctangent_series.ensures

pub returns-else-v : goal.returns-else-v
returns-else-v c = rw c.if-v.false (rw c.arctangent_series-else-v.ensures)
