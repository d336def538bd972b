-- `heading_mean::mean_of` meets its contract.
use Rattle.heading_mean.specs.rules.Mean.{mean_of}
use Rattle.heading_mean.proofs.mean_of.Goals as goal

pub returns : goal.returns
unfolding mean_of
returns c =
    rw (c.from_whole.ensures, c.sum_of.ensures) at c.on_circle.ensures
