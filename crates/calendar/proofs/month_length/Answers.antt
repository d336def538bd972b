-- `calendar::month_length` meets its contract.
use Rattle.std.proofs.Common.{true, false}
use Rattle.calendar.specs.laws.Closed.{month_zero, month_after, february, other}
use Rattle.calendar.proofs.month_length.Goals as goal

pub returns-then-month-lt1-clause-says : goal.returns-then-month-lt1-clause-says
returns-then-month-lt1-clause-says c = month_zero _ c.args.month c.if-month-lt1.true

pub returns-then-month-gt12-clause-says : goal.returns-then-month-gt12-clause-says
returns-then-month-gt12-clause-says c = month_after _ c.args.month c.if-month-gt12.true

pub returns-then-leaps-clause-says : goal.returns-then-leaps-clause-says
returns-then-leaps-clause-says c =
    let a = c.args in
    rw c.if-leaps.true (february true a.month c.if-month-eq2.true)

pub returns-then-month-eq2-clause-says : goal.returns-then-month-eq2-clause-says
returns-then-month-eq2-clause-says c =
    let a = c.args in
    rw c.if-leaps.false (february false a.month c.if-month-eq2.true)

pub returns-clause-says : goal.returns-clause-says
returns-clause-says c =
    let a = c.args in
    other a.leaps a.month c.if-month-eq2.false c.if-month-lt1.false c.if-month-gt12.false
