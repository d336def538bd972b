-- `aberr_args::with_angle` meets its contract.
use Rattle.aberr_args.specs.rules.Row.{plus}
use Rattle.aberr_args.proofs.with_angle.Goals as goal

pub returns-then-k : goal.returns-then-k
unfolding plus
returns-then-k c = rw c.if-k.true

pub returns : goal.returns
returns c = rw c.angle_of.ensures at c.plus.ensures
