-- `heading_mean::root_over` meets its contract.
use Rattle.heading_mean.specs.rules.Spread.{root_over}
use Rattle.heading_mean.proofs.root_over.Goals as goal

pub returns : goal.returns
unfolding root_over
returns c = rw (c.from_whole-2.ensures, c.from_whole.ensures) at c.root_of.ensures
