-- `transit::planned` meets its contract.
use Rattle.std.proofs.Common.{rules}
use mathlib.Core.Path.{refl}
use Rattle.quantity.specs.laws.Answer.{refuses}
use Rattle.transit.specs.rules.Observer.{planned_of}
use Rattle.transit.proofs.planned.Goals as goal

pub returns-then-status-ne0 : goal.returns-then-status-ne0
unfolding planned_of
returns-then-status-ne0 c = refuses _ refl c.if-status-ne0.true

pub returns : goal.returns
unfolding planned_of
returns c = search rules
