-- `calendar::day_number` meets its contract.
use Rattle.std.proofs.Common.{refl, arith}
use Rattle.calendar.specs.laws.Rule.{no_month_lem, day_zero, past_month, numbered}
use Rattle.calendar.proofs.day_number.Goals as goal

pub returns-in_default : goal.returns-in_default
returns-in_default c = no_month_lem c.args.date 0 (rw c.is_leap.ensures at c.in_default.ensures.says) refl

pub returns-then-day-eq0 : goal.returns-then-day-eq0
returns-then-day-eq0 c =
    day_zero c.args.date _ (rw c.is_leap.ensures at c.in-Some.ensures.says) (λ e. omega (arith, c.in-Some.ensures.some, e))
    c.if-day-eq0.true

pub returns-then-day-most : goal.returns-then-day-most
returns-then-day-most c =
    past_month c.args.date _ (rw c.is_leap.ensures at c.in-Some.ensures.says) (λ e. omega (arith, c.in-Some.ensures.some, e))
    c.if-day-eq0.false c.if-day-most.true

pub returns : goal.returns
returns c =
    numbered c.args.date _ (rw c.is_leap.ensures at c.in-Some.ensures.says) (λ e. omega (arith, c.in-Some.ensures.some, e))
    c.if-day-eq0.false c.if-day-most.false
    _ c.number_of.ensures
