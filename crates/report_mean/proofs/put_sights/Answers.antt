-- `report_mean::put_sights` meets its contract.
use borrow.Author.Tests.{lt-ltb, le-ltb}
use Rattle.lent.specs.laws.Writing.{same}
use Rattle.report_mean.specs.rules.Text.{sights_text}
use Rattle.report_mean.proofs.put_sights.Goals as goal

pub returns-then-i-status : goal.returns-then-i-status
unfolding sights_text
returns-then-i-status c =
    let e = c.first_refused-i.ensures in
    same (simp (lt-ltb _ _ (rw e at c.if-i-status.true))) (rw e at c.put_refused_at.ensures)

pub returns : goal.returns
unfolding sights_text
returns c =
    same (simp (le-ltb _ _ (rw c.first_refused-i.ensures at c.if-i-status.false))) c.put_agreed.ensures
