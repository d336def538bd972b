-- `lent::put_byte` meets its contract.
use mathlib.Core.List.{[], ◌∷◌}
use Rattle.lent.specs.laws.Writing.{single, beyond}
use Rattle.lent.proofs.put_byte.Goals as goal

pub returns-then-at-out : goal.returns-then-at-out
returns-then-at-out c = single c.args.out.now c.args.at c.args.b c.if-at-out.true

pub returns : goal.returns
returns c = beyond c.args.out.now c.args.at (c.args.b ∷ []) c.if-at-out.false
