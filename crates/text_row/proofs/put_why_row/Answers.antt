-- `text_row::put_why_row` meets its contract.
use borrow.Author.Tests.{lt-ltb, le-ltb}
use Rattle.lent.specs.laws.Writing.{same}
use Rattle.text_row.specs.rules.PlanRow.{why_row}
use Rattle.text_row.proofs.put_why_row.Goals as goal

pub returns-then-n-lt15 : goal.returns-then-n-lt15
unfolding why_row
returns-then-n-lt15 c = same (simp (lt-ltb _ _ c.if-n-lt15.true)) c.put_refusal.ensures

pub returns : goal.returns
unfolding why_row
returns c = same (simp (le-ltb _ _ c.if-n-lt15.false)) c.put_why.ensures
