-- `text_date::time_of` meets its contract.
use Rattle.std.proofs.Common.{rules}
use borrow.Author.Tests.{lt-ltb, le-ltb}
use Rattle.text_date.specs.rules.Time.{time_rule}
use Rattle.text_date.specs.laws.Steps.{goes_on}
use Rattle.text_date.proofs.time_of.Goals as goal

pub returns-then-text-lt10 : goal.returns-then-text-lt10
unfolding time_rule
returns-then-text-lt10 c = simp (lt-ltb _ _ c.if-text-lt10.true)

pub returns-in_err-date_number : goal.returns-in_err-date_number
unfolding time_rule
returns-in_err-date_number c =
    rw (le-ltb _ _ c.if-text-lt10.false, ← c.date_number.ensures) (search rules)

pub returns : goal.returns
unfolding time_rule
returns c =
    rw (le-ltb _ _ c.if-text-lt10.false) (goes_on _ _ _ _ c.date_number.ensures (search rules) c.with_number.ensures)
