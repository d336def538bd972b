-- `text_refusal::put_star_words` meets its contract.
use Rattle.std.proofs.Common.{rules}
use Rattle.lent.specs.laws.Writing.{nothing, same}
use Rattle.text_refusal.specs.rules.Refusal.{star_words}
use Rattle.text_refusal.proofs.put_star_words.Goals as goal

pub returns-in-3 : goal.returns-in-3
unfolding star_words
returns-in-3 c = same (rw c.in-3.is) c.put.ensures

pub returns-in-4 : goal.returns-in-4
unfolding star_words
returns-in-4 c = same (rw c.in-4.is) c.put-in-4.ensures

pub returns-in-7 : goal.returns-in-7
unfolding star_words
returns-in-7 c = same (rw c.in-7.is) c.put-in-7.ensures

pub returns-in-9 : goal.returns-in-9
unfolding star_words
returns-in-9 c = same (rw c.in-9.is) c.put-in-9.ensures

pub returns-in-10 : goal.returns-in-10
unfolding star_words
returns-in-10 c = same (rw c.in-10.is) c.put-in-10.ensures

pub returns-in-14 : goal.returns-in-14
unfolding star_words
returns-in-14 c = same (rw c.in-14.is) c.put-in-14.ensures

pub returns-in_default : goal.returns-in_default
unfolding star_words
returns-in_default c = same (search rules) (nothing _ _ _ c.within.ensures)
