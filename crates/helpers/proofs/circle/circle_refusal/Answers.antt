-- `helpers::circle::circle_refusal` meets its contract.
use Rattle.helpers.specs.rules.Circle.{circle_refusal}
use Rattle.helpers.proofs.circle.circle_refusal.Goals as goal

pub returns-then-x-2 : goal.returns-then-x-2
unfolding circle_refusal
returns-then-x-2 c =
    rw (← c.is_finite.ensures, c.if-is_finite.true, c.if-x.true, c.if-x-2.true)

pub returns-then-x : goal.returns-then-x
unfolding circle_refusal
returns-then-x c =
    rw (← c.is_finite.ensures, c.if-is_finite.true, c.if-x.true, c.if-x-2.false)

pub returns-then-is_finite : goal.returns-then-is_finite
unfolding circle_refusal
returns-then-is_finite c =
    rw (← c.is_finite.ensures, c.if-is_finite.true, c.if-x.false)

pub returns : goal.returns
unfolding circle_refusal
returns c = rw (← c.is_finite.ensures, c.if-is_finite.false)
