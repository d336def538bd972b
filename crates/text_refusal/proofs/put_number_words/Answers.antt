-- `text_refusal::put_number_words` meets its contract.
use Rattle.lent.specs.laws.Writing.{after}
use Rattle.text_refusal.specs.rules.Refusal.{number_words}
use Rattle.text_refusal.proofs.put_number_words.Goals as goal

pub returns : goal.returns
unfolding number_words
returns c =
    after c.put-a.ensures (after c.put_decimal-b.ensures c.put_call_words.ensures)
