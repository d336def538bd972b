-- `coords_ecl::steep_frame_refusal` meets its contract.
use mathlib.Core.Path.{sym}
use Rattle.double.specs.laws.Tests.{holds}
use Rattle.coords_ecl.specs.laws.Arguments.{steep_frame_taken}
use Rattle.coords_ecl.proofs.steep_frame_refusal.Goals as goal

pub returns-then-size-3 : goal.returns-then-size-3
returns-then-size-3 c =
    sym
    (steep_frame_taken _ _ _
    (holds (rw c.size.ensures at c.if-size.true))
    (holds (rw c.size-then-size.ensures at c.if-size-2.true))
    (holds (rw c.size-then-size-2.ensures at c.if-size-3.true)))
