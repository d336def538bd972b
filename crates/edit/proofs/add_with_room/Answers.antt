-- `edit::add_with_room` meets its contract.
use Rattle.list_edit.specs.laws.Room.{added_in_room}
use Rattle.edit.proofs.add_with_room.Goals as goal

pub returns : goal.returns
returns c h = added_in_room _ h c.put_zeros.ensures c.add.ensures
