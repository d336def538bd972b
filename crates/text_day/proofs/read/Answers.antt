-- `text_day::read` meets its contract.
use mathlib.Core.Path.{◌∙◌}
use mir.Facts.{to_z-of_z}
use Rattle.text_day.specs.laws.Steps.{is_decimal, is_named}
use Rattle.text_day.proofs.read.Goals as goal

pub returns-in-Some : goal.returns-in-Some
returns-in-Some c =
    is_decimal c.args.text.now c.args.dut1 _ _ c.read.ensures c.in-Some.is

pub returns-in-None : goal.returns-in-None
returns-in-None c =
    rw (to_z-of_z c.ranges.dut1) at c.named.ensures
    ∙ is_named c.args.text.now c.args.dut1 _ c.read.ensures c.in-None.is
