-- `heading::northward` meets its contract.
use Rattle.heading.specs.rules.Sky.{northward}
use Rattle.heading.proofs.northward.Goals as goal

pub returns : goal.returns
unfolding northward
returns c = c.on_circle.ensures
