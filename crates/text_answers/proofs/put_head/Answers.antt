-- `text_answers::put_head` meets its contract.
use Rattle.lent.specs.laws.Writing.{after}
use Rattle.text_answers.proofs.put_head.Goals as goal

pub returns : goal.returns
returns c = after c.put_edition-a.ensures c.put_heading.ensures
