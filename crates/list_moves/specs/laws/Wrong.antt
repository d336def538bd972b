-- Wrong variants are excluded: each differs from the rule at the input stated. A rule varies: a library that refuses everything, or
-- answers a constant, does not meet it.
use Rattle.std.specs.Prelude.{ℕ, refl, List, [], ◌∷◌, ◌++◌, ◌≢◌, Ok}
use Rattle.double.specs.laws.Apart.{apart}
use Rattle.quantity.specs.notions.Code.{of_answer}
use Rattle.quantity.specs.notions.Varies.{Varies}
use Rattle.lent.specs.rules.Put.{Put}
use Rattle.lent.specs.notions.Code.{of_bytes}
use Rattle.list_radio.specs.notions.Good.{form_bytes}
use Rattle.list_radio.specs.laws.Wrong.{two_stars}
use Rattle.list_moves.specs.rules.Moves.{to_list, to_radio}
use Rattle.list_moves.specs.notions.Computed.{computed}
use Rattle.list_moves.specs.notions.Wrong.{moves_out_of_range, nine_before_eight, stars_reversed, byte_two_written, rates_dropped}
use Rattle.list_moves.specs.notions.Wrong.{empty_dropped_to_radio, empty_dropped_to_list}

-- a record whose right ascension is a whole turn, alone and with a byte over
abbrev turn_record : List ℕ
turn_record = 0x07 ∷ 0 ∷ 0 ∷ 0 ∷ 0x00 ∷ 0x64 ∷ 0x3f ∷ 0x4d ∷ 0 ∷ 0 ∷ 0 ∷ 0 ∷ 0 ∷ 0 ∷ 0 ∷ 0 ∷ 0 ∷ 0 ∷ 0 ∷ 0 ∷ []

abbrev zero_record : List ℕ
zero_record = 0 ∷ 0 ∷ 0 ∷ 0 ∷ 0 ∷ 0 ∷ 0 ∷ 0 ∷ 0 ∷ 0 ∷ 0 ∷ 0 ∷ 0 ∷ 0 ∷ 0 ∷ 0 ∷ 0 ∷ 0 ∷ 0 ∷ 0 ∷ []

pub to_list_varies : Varies (to_list (0x03 ∷ 0x00 ∷ [])) (to_list two_stars)
unfolding computed
to_list_varies = record { here = refl; there = refl; apart = apart (of_answer of_bytes) refl }

pub to_radio_varies : Varies (to_radio []) (to_radio zero_record)
unfolding computed
to_radio_varies = record { here = refl; there = refl; apart = apart (of_answer of_bytes) refl }

pub moves_out_of_range_excluded : moves_out_of_range turn_record ≢ to_radio turn_record
unfolding computed
moves_out_of_range_excluded = apart (of_answer of_bytes) refl

pub nine_before_eight_excluded : nine_before_eight (turn_record ++ (0 ∷ [])) ≢ to_radio (turn_record ++ (0 ∷ []))
unfolding computed
nine_before_eight_excluded = apart (of_answer of_bytes) refl

-- the radio list of no star has two bytes, and one is put into a slice of one
pub short_slice_written_excluded : ¬ Put (to_radio []) (0 ∷ []) 0 (3 ∷ []) (Ok 1)
unfolding computed
short_slice_written_excluded wrong = apart of_bytes refl wrong.slice

pub stars_reversed_excluded : stars_reversed two_stars ≢ to_list two_stars
unfolding computed
stars_reversed_excluded = apart (of_answer of_bytes) refl

pub byte_two_written_excluded : byte_two_written zero_record ≢ to_radio zero_record
unfolding computed form_bytes
byte_two_written_excluded = apart (of_answer of_bytes) refl

pub rates_dropped_excluded : rates_dropped two_stars ≢ to_list two_stars
unfolding computed
rates_dropped_excluded = apart (of_answer of_bytes) refl

pub empty_dropped_to_radio_excluded : empty_dropped_to_radio zero_record ≢ to_radio zero_record
unfolding computed
empty_dropped_to_radio_excluded = apart (of_answer of_bytes) refl

-- the radio list of one star of number 0
abbrev empty_star : List ℕ
empty_star = 0x03 ∷ 0x01 ∷ 0x00 ∷ 0x00 ∷ 0x00 ∷ 0x00 ∷ 0x00 ∷ []

pub empty_dropped_to_list_excluded : empty_dropped_to_list empty_star ≢ to_list empty_star
unfolding computed
empty_dropped_to_list_excluded = apart (of_answer of_bytes) refl
