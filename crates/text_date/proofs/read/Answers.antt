-- `text_date::read` meets its contract.
use Rattle.std.proofs.Common.{rules}
use Rattle.text_date.specs.rules.Moment.{moment_rule}
use mathlib.Core.Path.{ap, ◌∙◌}
use mir.Facts.{to_z-of_z}
use Rattle.calendar.specs.rules.Julian.{julian_of}
use Rattle.text_date.specs.rules.Date.{is}
use Rattle.text_date.specs.laws.Steps.{at_time}
use Rattle.text_date.proofs.read.Goals as goal

pub returns-in_err-n : goal.returns-in_err-n
unfolding moment_rule
returns-in_err-n c = rw (← c.time_of.ensures) (search rules)

pub returns : goal.returns
returns c =
    ap is (c.julian.ensures ∙ ap (julian_of _ _) (to_z-of_z c.ranges.dut1))
    ∙ at_time _ c.args.dut1 _ _ _ c.time_of.ensures (search rules)
