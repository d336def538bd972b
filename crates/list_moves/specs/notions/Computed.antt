-- What a theorem opens that works rules out at stated inputs: the moves, over the radio list.
use Rattle.std.specs.Prelude.{ℕ}
use Rattle.list_radio.specs.notions.Computed as radio
use Rattle.list_moves.specs.rules.Moves.{to_list, to_radio}

-- a name for the line below it, which is what counts
unfoldable pub computed : ℕ
unfolding radio.computed to_list to_radio
computed = 0
