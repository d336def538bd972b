-- `double::whole_part` meets its contract.
use Rattle.double.specs.laws.Tests.{holds}
use Rattle.double.specs.laws.WholeDigits.{none_below_half}
use Rattle.double.proofs.whole_part.Goals as goal

pub near_whole_part-requires : goal.near_whole_part-requires
near_whole_part-requires c = (holds c.if-x-2.true, holds c.if-x.true)

pub returns-then-x-2 : goal.returns-then-x-2
returns-then-x-2 c = c.near_whole_part.ensures

pub returns-then-x : goal.returns-then-x
returns-then-x c = none_below_half c.args.x c.if-x-2.false

pub returns : goal.returns
returns c = c.far_whole_part.ensures
