-- `text_refusal::put_observer_words` meets its contract.
use Rattle.std.proofs.Common.{rules}
use Rattle.lent.specs.laws.Writing.{nothing, same}
use Rattle.text_refusal.specs.rules.Refusal.{observer_words}
use Rattle.text_refusal.proofs.put_observer_words.Goals as goal

pub returns-in-3 : goal.returns-in-3
unfolding observer_words
returns-in-3 c = same (rw c.in-3.is) c.put.ensures

pub returns-in-4 : goal.returns-in-4
unfolding observer_words
returns-in-4 c = same (rw c.in-4.is) c.put-in-4.ensures

pub returns-in_default : goal.returns-in_default
unfolding observer_words
returns-in_default c = same (search rules) (nothing _ _ _ c.within.ensures)
