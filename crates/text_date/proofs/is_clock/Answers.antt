-- `text_date::is_clock` meets its contract.
use borrow.Author.Tests.{ne_eqb, lt-ltb, le-ltb}
use Rattle.text_date.specs.rules.Time.{is_clock}
use Rattle.text_date.specs.laws.Steps.{clock_by_lem}
use Rattle.text_date.proofs.is_clock.Goals as goal

pub returns-then-text-lt20 : goal.returns-then-text-lt20
unfolding is_clock
returns-then-text-lt20 c = simp (lt-ltb _ _ c.if-text-lt20.true)

pub returns-then-text-ne58 : goal.returns-then-text-ne58
unfolding is_clock
returns-then-text-ne58 c = simp (le-ltb _ _ c.if-text-lt20.false, ne_eqb _ _ c.if-text-ne58.true)

pub returns : goal.returns
returns c = clock_by_lem _ c.if-text-lt20.false c.if-text-ne58.false
