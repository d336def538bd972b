-- `quantity::day_refusal` meets its contract.
use mathlib.Core.Path.{sym}
use Rattle.double.specs.laws.Tests.{holds, fails}
use Rattle.quantity.specs.rules.Refusal.{day_refusal}
use Rattle.quantity.specs.laws.Refusal.{day_taken, day_past}
use Rattle.quantity.proofs.day_refusal.Goals as goal

pub returns-then-size : goal.returns-then-size
returns-then-size c = sym (day_taken _ (holds (rw c.size.ensures at c.if-size.true)))

pub returns-then-is_finite : goal.returns-then-is_finite
returns-then-is_finite c =
    sym (day_past _ (holds (rw c.is_finite.ensures at c.if-is_finite.true)) (fails (rw c.size.ensures at c.if-size.false)))

pub returns-else-is_finite : goal.returns-else-is_finite
unfolding day_refusal
returns-else-is_finite c = rw (← c.is_finite.ensures, c.if-is_finite.false)
