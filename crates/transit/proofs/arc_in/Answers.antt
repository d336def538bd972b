-- `transit::arc_in` meets its contract.
use Rattle.transit.specs.rules.Arc.{arc_in}
use Rattle.transit.proofs.arc_in.Goals as goal

pub returns-then-cosine : goal.returns-then-cosine
unfolding arc_in
returns-then-cosine c = rw c.if-cosine.true

pub returns-then-cosine-2 : goal.returns-then-cosine-2
unfolding arc_in
returns-then-cosine-2 c = rw (c.if-cosine.false, c.if-cosine-2.true)

pub returns : goal.returns
unfolding arc_in
returns c =
    rw (c.if-cosine.false, c.if-cosine-2.false) (rw c.arcsine_in.ensures at c.taken_from.ensures)
