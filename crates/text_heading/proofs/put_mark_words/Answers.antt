-- `text_heading::put_mark_words` meets its contract.
use borrow.Author.Tests.{eq-eqb, ne_eqb}
use Rattle.lent.specs.laws.Writing.{nothing, same}
use Rattle.text_heading.specs.rules.Refusal.{mark_words}
use Rattle.text_heading.proofs.put_mark_words.Goals as goal

pub returns-then-n-eq3 : goal.returns-then-n-eq3
unfolding mark_words
returns-then-n-eq3 c =
    same (simp (eq-eqb _ _ c.if-n-eq3.true)) c.put.ensures

pub returns : goal.returns
unfolding mark_words
returns c = same (simp (ne_eqb _ _ c.if-n-eq3.false)) (nothing _ _ _ c.within.ensures)
