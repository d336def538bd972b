-- Moves worked out on the rules.
use Rattle.std.specs.Prelude.{◌≡◌, refl, List, [], ◌∷◌, ℕ}
use Rattle.quantity.specs.rules.Answer.{answered}
use Rattle.list_radio.specs.laws.Cases.{list300, list_300_of_before}
use Rattle.list_moves.specs.rules.Moves.{to_list, to_radio}
use Rattle.list_moves.specs.notions.Computed.{computed}

-- a star's record, whose radio list is `list300`, and both moves
abbrev pub record300 : List ℕ
record300 =
    0x2c ∷ 0x01 ∷ 0x00 ∷ 0x00 ∷ 0x80 ∷ 0xf9 ∷ 0x37 ∷ 0x03 ∷ 0xff ∷ 0xff ∷ 0xff ∷ 0xff ∷ 0xfe ∷ 0xff ∷ 0xff ∷ 0xff ∷ 0x64 ∷ 0x00 ∷ 0x00 ∷ 0x00 ∷ []

pub moved_to_radio : to_radio record300 ≡ answered list300
unfolding computed
moved_to_radio = refl

pub moved_to_list : to_list list300 ≡ answered record300
unfolding computed
moved_to_list = refl

-- the list of before: its record has no yearly changes, and is written again with byte 3
abbrev still300 : List ℕ
still300 =
    0x2c ∷ 0x01 ∷ 0x00 ∷ 0x00 ∷ 0x80 ∷ 0xf9 ∷ 0x37 ∷ 0x03 ∷ 0xff ∷ 0xff ∷ 0xff ∷ 0xff ∷ 0x00 ∷ 0x00 ∷ 0x00 ∷ 0x00 ∷ 0x00 ∷ 0x00 ∷ 0x00 ∷ 0x00 ∷ []

pub byte_two_moved : to_list list_300_of_before ≡ answered still300
unfolding computed
byte_two_moved = refl

pub byte_three_written : to_radio still300 ≡ answered (0x03 ∷ 0x01 ∷ 0xac ∷ 0x02 ∷ 0x80 ∷ 0xf3 ∷ 0xdf ∷ 0x19 ∷ 0x01 ∷ 0x00 ∷ 0x00 ∷ [])
unfolding computed
byte_three_written = refl
