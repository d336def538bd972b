-- `text_night::read_sight` meets its contract.
use Rattle.std.proofs.Common.{rules, to_z-of_z}
use Rattle.text_night.specs.rules.Sight.{sight_rule}
use Rattle.text_night.proofs.read_sight.Goals as goal

pub returns-in_err-day : goal.returns-in_err-day
unfolding sight_rule
returns-in_err-day c = rw (← (rw (to_z-of_z c.ranges.dut1) at c.next_day.ensures)) (search rules)

pub returns : goal.returns
unfolding sight_rule
returns c =
    let sight = rw c.after_field.ensures at c.with_number.ensures in
    rw (← (rw (to_z-of_z c.ranges.dut1) at c.next_day.ensures)) (search rules)
