-- `text_date::date_number` meets its contract.
use Rattle.std.proofs.Common.{rules}
use borrow.Author.Tests.{eq-eqb, ne_eqb}
use Rattle.text_date.specs.declared.Reason.TheVariants.{NoDate, NoMonth, NoDay}
use Rattle.text_date.specs.rules.Date.{date_of}
use Rattle.text_date.specs.laws.Steps.{holds, fails, no_year, no_month_lem, no_day_lem, dated_by}
use Rattle.text_date.proofs.date_number.Goals as goal

pub returns-then-text-ne45 : goal.returns-then-text-ne45
unfolding date_of
returns-then-text-ne45 c = simp (ne_eqb _ _ c.if-text-ne45.true)

pub returns-then-text-ne45-2 : goal.returns-then-text-ne45-2
unfolding date_of
returns-then-text-ne45-2 c = simp (eq-eqb _ _ c.if-text-ne45.false, ne_eqb _ _ c.if-text-ne45-2.true)

pub returns-in_err-y : goal.returns-in_err-y
returns-in_err-y c =
    let e = fails 10000 _ NoDate c.in_err-y.ensures in
    rw (← no_year c.args.text.now _ 0 0 c.if-text-ne45.false c.if-text-ne45-2.false c.year.ensures.says e.1, ← e.0) (search rules)

pub returns-in_err-m : goal.returns-in_err-m
returns-in_err-m c =
    let y = holds 10000 _ NoDate c.in_ok-y.ensures in
    let e = fails 100 _ NoMonth c.in_err-m.ensures in
    rw (
      ← no_month_lem c.args.text.now _ _ 0 c.if-text-ne45.false c.if-text-ne45-2.false c.year.ensures.says y.1 c.pair.ensures.says e.1,
      ← e.0,
    ) (search rules)

pub returns-in_err-d : goal.returns-in_err-d
returns-in_err-d c =
    let y = holds 10000 _ NoDate c.in_ok-y.ensures in
    let m = holds 100 _ NoMonth c.in_ok-m.ensures in
    let e = fails 100 _ NoDay c.in_err-d.ensures in
    rw (
      ← no_day_lem c.args.text.now _ _ _ c.if-text-ne45.false c.if-text-ne45-2.false c.year.ensures.says y.1 c.pair.ensures.says m.1
          c.pair-2.ensures.says e.1,
      ← e.0,
    ) (search rules)

pub returns-in_err-n : goal.returns-in_err-n
returns-in_err-n c =
    let y = holds 10000 _ NoDate c.in_ok-y.ensures in
    let m = holds 100 _ NoMonth c.in_ok-m.ensures in
    let d = holds 100 _ NoDay c.in_ok-d.ensures in
    rw (
      ← dated_by c.args.text.now _ _ _ c.if-text-ne45.false c.if-text-ne45-2.false c.year.ensures.says y.1 c.pair.ensures.says m.1
          c.pair-2.ensures.says d.1,
      ← y.0,
      ← m.0,
      ← d.0,
      ← c.day_number.ensures,
    ) (search rules)

pub returns : goal.returns
returns c =
    let y = holds 10000 _ NoDate c.in_ok-y.ensures in
    let m = holds 100 _ NoMonth c.in_ok-m.ensures in
    let d = holds 100 _ NoDay c.in_ok-d.ensures in
    rw (
      ← dated_by c.args.text.now _ _ _ c.if-text-ne45.false c.if-text-ne45-2.false c.year.ensures.says y.1 c.pair.ensures.says m.1
          c.pair-2.ensures.says d.1,
      ← y.0,
      ← m.0,
      ← d.0,
      ← c.day_number.ensures,
    ) (search rules)
