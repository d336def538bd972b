-- `report_mean::put_no_mean` meets its contract.
use borrow.Author.Tests.{eq-eqb, ne_eqb}
use Rattle.lent.specs.laws.Writing.{same}
use Rattle.report_mean.specs.rules.Text.{no_mean_text}
use Rattle.report_mean.proofs.put_no_mean.Goals as goal

pub returns-then-n-eq20 : goal.returns-then-n-eq20
unfolding no_mean_text
returns-then-n-eq20 c = same (simp (eq-eqb _ _ c.if-n-eq20.true)) c.put_none_agree.ensures

pub returns : goal.returns
unfolding no_mean_text
returns c = same (simp (ne_eqb _ _ c.if-n-eq20.false)) c.put_sight_refusal.ensures
