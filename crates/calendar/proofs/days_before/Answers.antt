-- `calendar::days_before` meets its contract.
use Rattle.std.proofs.Common.{true, false}
use Rattle.calendar.specs.laws.Closed.{before_early, before_late}
use Rattle.calendar.proofs.days_before.Goals as goal

pub returns-then-month-le2 : goal.returns-then-month-le2
returns-then-month-le2 c =
    let a = c.args in
    before_early a.leaps a.month c.requires.0 c.if-month-le2.true

pub returns-then-leaps : goal.returns-then-leaps
returns-then-leaps c =
    let a = c.args in
    rw c.if-leaps.true (before_late true a.month c.if-month-le2.false c.requires.1)

pub returns : goal.returns
returns c =
    let a = c.args in
    rw c.if-leaps.false (before_late false a.month c.if-month-le2.false c.requires.1)
