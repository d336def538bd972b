-- `text_time::put_again` meets its contract.
use Rattle.lent.specs.laws.Writing.{after, nothing, same}
use Rattle.text_time.specs.rules.Line.{again_text}
use Rattle.text_time.proofs.put_again.Goals as goal

pub returns-then-again : goal.returns-then-again
unfolding again_text
returns-then-again c =
    same (rw c.if-again.true) (after c.put-a.ensures c.put_time.ensures)

pub returns : goal.returns
unfolding again_text
returns c = same (rw c.if-again.false) (nothing _ _ _ c.within.ensures)
