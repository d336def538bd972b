-- `heading_mean::taken_back` meets its contract.
use Rattle.heading_mean.specs.rules.Residual.{taken_back}
use Rattle.heading_mean.proofs.taken_back.Goals as goal

pub returns-then-x : goal.returns-then-x
unfolding taken_back
returns-then-x c = rw c.if-x.true

pub returns : goal.returns
unfolding taken_back
returns c = rw c.if-x.false
