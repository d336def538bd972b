-- `text_heading::put_sight_refusal` meets its contract.
use Rattle.lent.specs.laws.Writing.{after}
use Rattle.text_heading.specs.rules.Refusal.{sight_refusal_text}
use Rattle.text_heading.proofs.put_sight_refusal.Goals as goal

pub returns : goal.returns
unfolding sight_refusal_text
returns c =
    after c.put_number_words-a.ensures (after c.put_sight_words-b.ensures c.put_byte.ensures)
