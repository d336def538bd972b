-- `text_heading::put_sight_words` meets its contract.
use borrow.Author.Tests.{eq-eqb, ne_eqb}
use Rattle.lent.specs.laws.Writing.{same}
use Rattle.text_heading.specs.rules.Refusal.{sight_words}
use Rattle.text_heading.proofs.put_sight_words.Goals as goal

pub returns-then-n-eq3 : goal.returns-then-n-eq3
unfolding sight_words
returns-then-n-eq3 c =
    same (simp (eq-eqb _ _ c.if-n-eq3.true)) c.put.ensures

pub returns-then-n-eq10 : goal.returns-then-n-eq10
unfolding sight_words
returns-then-n-eq10 c =
    same (simp (ne_eqb _ _ c.if-n-eq3.false, eq-eqb _ _ c.if-n-eq10.true)) c.put-then-n-eq10.ensures

pub returns-then-n-eq14 : goal.returns-then-n-eq14
unfolding sight_words
returns-then-n-eq14 c =
    same (simp (ne_eqb _ _ c.if-n-eq3.false, ne_eqb _ _ c.if-n-eq10.false, eq-eqb _ _ c.if-n-eq14.true)) c.put-then-n-eq14.ensures

pub returns : goal.returns
unfolding sight_words
returns c =
    same (simp (ne_eqb _ _ c.if-n-eq3.false, ne_eqb _ _ c.if-n-eq10.false, ne_eqb _ _ c.if-n-eq14.false)) c.put_star_words.ensures
