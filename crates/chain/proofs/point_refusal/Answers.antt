-- `chain::point_refusal` meets its contract.
use mathlib.Core.Path.{sym}
use Rattle.double.specs.laws.Tests.{holds}
use Rattle.chain.specs.laws.Point.{point_taken}
use Rattle.chain.proofs.point_refusal.Goals as goal

pub returns-then-size-2 : goal.returns-then-size-2
returns-then-size-2 c =
    let p = c.args.p in
    sym (point_taken p (holds (rw c.size.ensures at c.if-size.true)) (holds (rw c.size-then-size.ensures at c.if-size-2.true)))
