-- `heading::mark_in` meets its contract.
use Rattle.heading.specs.rules.Mark.{mark_in}
use Rattle.heading.proofs.mark_in.Goals as goal

pub returns : goal.returns
unfolding mark_in
returns c = c.on_circle.ensures
