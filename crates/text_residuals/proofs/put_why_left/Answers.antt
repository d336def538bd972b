-- `text_residuals::put_why_left` meets its contract.
use borrow.Author.Tests.{eq-eqb, ne_eqb}
use Rattle.lent.specs.laws.Writing.{same}
use Rattle.text_residuals.specs.rules.Sheet.{why_left}
use Rattle.text_residuals.proofs.put_why_left.Goals as goal

pub returns-then-n-eq10 : goal.returns-then-n-eq10
unfolding why_left
returns-then-n-eq10 c = same (rw (eq-eqb _ 10 c.if-n-eq10.true)) c.put.ensures

pub returns : goal.returns
unfolding why_left
returns c = same (rw (ne_eqb _ 10 c.if-n-eq10.false)) c.put_refusal.ensures
