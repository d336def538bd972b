-- `calendar::is_leap` meets its contract.
use Rattle.std.proofs.Common.{◌%◌, eq-eqb, ne_eqb}
use Rattle.calendar.specs.rules.Date.{leap}
use Rattle.calendar.proofs.is_leap.Goals as goal

pub returns-then-year-eq0 : goal.returns-then-year-eq0
unfolding leap
returns-then-year-eq0 c =
    let year = c.args.year in
    rw (eq-eqb (year % 400) 0 c.if-year-eq0.true)

pub returns-then-year-eq0-2 : goal.returns-then-year-eq0-2
unfolding leap
returns-then-year-eq0-2 c =
    let year = c.args.year in
    rw (ne_eqb (year % 400) 0 c.if-year-eq0.false, eq-eqb (year % 100) 0 c.if-year-eq0-2.true)

pub returns : goal.returns
unfolding leap
returns c =
    let year = c.args.year in
    rw (ne_eqb (year % 400) 0 c.if-year-eq0.false, ne_eqb (year % 100) 0 c.if-year-eq0-2.false)
