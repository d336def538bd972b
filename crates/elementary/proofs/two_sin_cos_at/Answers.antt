-- `elementary::two_sin_cos_at` meets its contract.
use Rattle.double.specs.laws.Tests.{holds}
use Rattle.elementary.specs.rules.Sine.{sin_cos_of, two_sin_cos_of}
use Rattle.elementary.proofs.two_sin_cos_at.Goals as goal

pub near_two_sin_cos-requires : goal.near_two_sin_cos-requires
near_two_sin_cos-requires c =
    (rw (← c.size.ensures) (holds c.if-size.true), rw (← c.size-then-size.ensures) (holds c.if-size-2.true))

pub returns-then-size-2 : goal.returns-then-size-2
returns-then-size-2 c = c.near_two_sin_cos.ensures

pub returns : goal.returns
unfolding two_sin_cos_of sin_cos_of
returns c = rw (c.sin_cos_of-q.ensures, c.sin_cos_of-p.ensures)
