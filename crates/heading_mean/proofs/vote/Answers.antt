-- `heading_mean::vote` meets its contract.
use Rattle.heading_mean.specs.rules.Reference.{vote}
use Rattle.heading_mean.proofs.vote.Goals as goal

pub returns-then-is_aside : goal.returns-then-is_aside
unfolding vote
returns-then-is_aside c =
    rw (← c.of_pattern.ensures, ← c.residual_from-x.ensures, ← c.is_aside.ensures, c.if-is_aside.true)

pub returns-else-is_aside : goal.returns-else-is_aside
unfolding vote
returns-else-is_aside c =
    rw (← c.of_pattern.ensures, ← c.residual_from-x.ensures, ← c.is_aside.ensures, c.if-is_aside.false)
