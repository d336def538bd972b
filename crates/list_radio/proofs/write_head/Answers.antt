-- `list_radio::write_head` meets its contract.
use Rattle.lent.specs.laws.Writing.{after}
use Rattle.list_radio.specs.rules.Radio.{head_bytes}
use Rattle.list_radio.proofs.write_head.Goals as goal

pub returns : goal.returns
unfolding head_bytes
returns c = after c.put_byte-a.ensures c.put_number.ensures
