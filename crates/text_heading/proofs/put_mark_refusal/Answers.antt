-- `text_heading::put_mark_refusal` meets its contract.
use Rattle.lent.specs.laws.Writing.{after}
use Rattle.text_heading.specs.rules.Refusal.{mark_refusal_text}
use Rattle.text_heading.proofs.put_mark_refusal.Goals as goal

pub returns : goal.returns
unfolding mark_refusal_text
returns c =
    after c.put_number_words-a.ensures (after c.put_mark_words-b.ensures c.put_byte.ensures)
