-- `text_fields::is_blank` meets its contract.
use borrow.Author.Tests.{eq-eqb, ne_eqb}
use Rattle.text_fields.specs.rules.Fields.{is_blank}
use Rattle.text_fields.proofs.is_blank.Goals as goal

pub returns-then-b-eq32 : goal.returns-then-b-eq32
unfolding is_blank
returns-then-b-eq32 c = simp (eq-eqb _ _ c.if-b-eq32.true)

pub returns-then-b-eq9 : goal.returns-then-b-eq9
unfolding is_blank
returns-then-b-eq9 c = simp (ne_eqb _ _ c.if-b-eq32.false, eq-eqb _ _ c.if-b-eq9.true)

pub returns : goal.returns
unfolding is_blank
returns c = simp (ne_eqb _ _ c.if-b-eq32.false, ne_eqb _ _ c.if-b-eq9.false)
