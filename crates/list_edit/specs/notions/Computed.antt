-- What a theorem opens that works rules out at stated inputs: the edits, over the list.
use Rattle.std.specs.Prelude.{ℕ}
use Rattle.list.specs.notions.Computed as list
use Rattle.list_edit.specs.rules.Edit.{strike_in, add_in, gathered, on_list}

-- a name for the line below it, which is what counts
unfoldable pub computed : ℕ
unfolding list.computed strike_in add_in gathered on_list
computed = 0
