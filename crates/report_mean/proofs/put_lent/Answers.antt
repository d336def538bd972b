-- `report_mean::put_lent` meets its contract.
use borrow.Author.Tests.{eq-eqb, ne_eqb}
use Rattle.lent.specs.laws.Writing.{same}
use Rattle.report_mean.specs.rules.Text.{lent_text}
use Rattle.report_mean.proofs.put_lent.Goals as goal

pub returns-then-line-eq0 : goal.returns-then-line-eq0
unfolding lent_text
returns-then-line-eq0 c = same (simp (eq-eqb _ _ c.if-line-eq0.true)) c.put.ensures

pub returns : goal.returns
unfolding lent_text
returns c = same (simp (ne_eqb _ _ c.if-line-eq0.false)) c.put_sights.ensures
