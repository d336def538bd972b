-- `text_answers::put_list` meets its contract.
use Rattle.lent.specs.laws.Writing.{after, same}
use Rattle.text_answers.specs.rules.Answers.{list_text}
use Rattle.text_answers.proofs.put_list.Goals as goal

pub returns : goal.returns
unfolding list_text
returns c =
    same (rw (← c.count.ensures)) (after c.put_head-a.ensures (after c.put_stars-b.ensures c.put_foot.ensures))
