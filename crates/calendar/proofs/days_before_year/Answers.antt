-- `calendar::days_before_year` meets its contract.
use Rattle.std.proofs.Common.{sym}
use Rattle.calendar.specs.laws.Closed.{year_by_lem}
use Rattle.calendar.proofs.days_before_year.Goals as goal

pub returns : goal.returns
returns c = sym (year_by_lem c.args.year)
