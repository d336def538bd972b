-- `report_day::millionths_of` meets its contract.
use Rattle.report_day.specs.rules.Day.{millionths_of}
use Rattle.report_day.proofs.millionths_of.Goals as goal

pub returns : goal.returns
unfolding millionths_of
returns c = rw (c.nearest_whole.ensures, c.to_degrees-y.ensures)
