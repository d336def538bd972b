-- `text_refusal::put_call_words` meets its contract.
use Rattle.std.proofs.Common.{rules}
use Rattle.lent.specs.laws.Writing.{nothing, same}
use Rattle.text_refusal.specs.rules.Refusal.{call_words}
use Rattle.text_refusal.proofs.put_call_words.Goals as goal

pub returns-in-1 : goal.returns-in-1
unfolding call_words
returns-in-1 c = same (rw c.in-1.is) c.put.ensures

pub returns-in-2 : goal.returns-in-2
unfolding call_words
returns-in-2 c = same (rw c.in-2.is) c.put-in-2.ensures

pub returns-in-8 : goal.returns-in-8
unfolding call_words
returns-in-8 c = same (rw c.in-8.is) c.put-in-8.ensures

pub returns-in_default : goal.returns-in_default
unfolding call_words
returns-in_default c = same (search rules) (nothing _ _ _ c.within.ensures)
