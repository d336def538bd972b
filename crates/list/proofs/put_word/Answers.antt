-- `list::put_word` meets its contract: four bytes, one after the other.
use Rattle.lent.specs.laws.Writing.{after}
use Rattle.list.specs.rules.Record.{word_bytes}
use Rattle.list.proofs.put_word.Goals as goal

pub returns : goal.returns
unfolding word_bytes
returns c =
    after (after (after c.put_byte-a.ensures c.put_byte-b.ensures) c.put_byte-c.ensures) c.put_byte.ensures
