-- `report_mean::put_refusal` meets its contract.
use borrow.Author.Tests.{eq-eqb, ne_eqb}
use Rattle.lent.specs.laws.Writing.{same}
use Rattle.report_mean.specs.rules.Refused.{refusal_text}
use Rattle.report_mean.proofs.put_refusal.Goals as goal

pub returns-then-bits-eq0 : goal.returns-then-bits-eq0
unfolding refusal_text
returns-then-bits-eq0 c = same (simp (eq-eqb _ _ c.if-bits-eq0.true)) c.put_sight_refusal.ensures

pub returns : goal.returns
unfolding refusal_text
returns c = same (simp (ne_eqb _ _ c.if-bits-eq0.false)) c.put_mark_refusal.ensures
