-- `calendar::number_of` meets its contract.
use Rattle.std.proofs.Common.{arith}
use Rattle.calendar.specs.rules.Number.{number_of}
use Rattle.calendar.specs.laws.Closed.{year_most, valid_month}
use Rattle.calendar.specs.laws.Distinct.{before_most}
use Rattle.calendar.proofs.number_of.Goals as goal

pub overflow_add-result : goal.overflow_add-result
overflow_add-result c = omega (arith, c.days_before_year.ensures, year_most c.args.date.year)

pub days_before-requires : goal.days_before-requires
days_before-requires c = valid_month c.args.date c.requires

pub overflow_add-result-2 : goal.overflow_add-result-2
overflow_add-result-2 c =
    let d = c.args.date in
    let l = c.is_leap.result in
    omega (
      arith,
      c.days_before_year.ensures,
      year_most d.year,
      c.days_before.ensures,
      before_most l d.month (valid_month d c.requires).1,
    )

pub overflow_add-result-3 : goal.overflow_add-result-3
overflow_add-result-3 c =
    let d = c.args.date in
    let l = c.is_leap.result in
    omega (
      arith,
      c.days_before_year.ensures,
      year_most d.year,
      c.days_before.ensures,
      before_most l d.month (valid_month d c.requires).1,
    )

pub returns : goal.returns
unfolding number_of
returns c = rw (c.days_before.ensures, c.is_leap.ensures, c.days_before_year.ensures)
