-- `text_answers::put_count` meets its contract.
use Rattle.lent.specs.laws.Writing.{after}
use Rattle.text_answers.specs.rules.Answers.{count_text}
use Rattle.text_answers.proofs.put_count.Goals as goal

pub returns : goal.returns
unfolding count_text
returns c = after c.put_byte-a.ensures c.put_decimal.ensures
