-- `text_refusal::put_refusal` meets its contract.
use Rattle.lent.specs.laws.Writing.{after}
use Rattle.text_refusal.specs.rules.Refusal.{refusal_text}
use Rattle.text_refusal.proofs.put_refusal.Goals as goal

pub returns : goal.returns
unfolding refusal_text
returns c =
    after c.put_number_words-a.ensures (after c.put_star_words-b.ensures c.put_byte.ensures)
