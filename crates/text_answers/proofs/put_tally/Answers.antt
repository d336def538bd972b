-- `text_answers::put_tally` meets its contract.
use Rattle.lent.specs.laws.Writing.{after}
use Rattle.text_answers.specs.rules.Answers.{tally_text}
use Rattle.text_answers.proofs.put_tally.Goals as goal

pub returns : goal.returns
unfolding tally_text
returns c =
    after c.put-a.ensures (after c.put_counts-b.ensures c.put_byte.ensures)
