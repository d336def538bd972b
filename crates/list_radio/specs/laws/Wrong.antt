-- Wrong variants are excluded: each differs from the rule at the input stated. A rule varies: a library that refuses everything, or
-- answers a constant, does not meet it.
use Rattle.std.specs.Prelude.{ℕ, ◌+◌, ◌*◌, refl, true, false, List, [], ◌∷◌, ◌++◌, pos, negsuc, nat_abs, length, ◌≢◌}
use Rattle.double.specs.notions.Code.{of_number}
use Rattle.double.specs.laws.Apart.{apart}
use Rattle.quantity.specs.notions.Code.{of_answer}
use Rattle.quantity.specs.notions.Varies.{Varies}
use Rattle.quantity.specs.rules.Answer.{then}
use Rattle.lent.specs.rules.Put.{room_for}
use Rattle.lent.specs.notions.Code.{of_bytes}
use Rattle.list.specs.declared.Star.{Star}
use Rattle.list.specs.rules.Record.{turn}
use Rattle.list_groups.specs.rules.Reading.{Got, AtOffset}
use Rattle.list_radio.specs.rules.Star.{star_groups, read_star}
use Rattle.list_radio.specs.rules.Radio.{head_bytes, radio_bytes, mark_refusal, read_count}
use Rattle.list_radio.specs.rules.Reader.{open_rule, star_at_rule, accept_rule}
use Rattle.list_radio.specs.rules.Put.{head_text, star_text}
use Rattle.list_radio.specs.notions.Computed.{computed}
use Rattle.list_radio.specs.notions.Wrong.{empty_is_eleven, any_first_byte, byte_four_taken, byte_two_refused, count_3001_taken}
use Rattle.list_radio.specs.notions.Wrong.{range_unchecked, nine_before_the_last_number, nine_before_the_rates, byte_two_with_rates}
use Rattle.list_radio.specs.notions.Wrong.{byte_two_with_five_numbers, byte_three_with_three_numbers, rates_read_traded, rates_read_as_they_stand}
use Rattle.list_radio.specs.notions.Wrong.{own_offset, empty_passed_over, byte_over_taken, accepts3001, twelve_for_bytes_over}
use Rattle.list_radio.specs.notions.Wrong.{ascension_first, declination_unfolded, rates_written_traded, rates_unfolded, rates_left_out}
use Rattle.list_radio.specs.notions.Wrong.{byte_two_written, count_left_out, bytes_counted, eight_before_nine, count_3001_put, any_star_put}

abbrev of_count : Got ℕ → ℕ
of_count g = g.value

-- a star read, by its yearly changes and by how many bytes are left
abbrev of_star : Got Star → ℕ
of_star g = length g.rest + 65536 * nat_abs g.value.asc_rate

abbrev of_head : AtOffset ℕ → ℕ
of_head p = p.offset + 65536 * p.value

abbrev of_received : AtOffset Star → ℕ
of_received p = p.offset + 65536 * p.value.number

-- two stars; a count of 3001; a star whose right ascension is a whole turn, the same without its last number, and with three numbers alone
abbrev pub two_stars : List ℕ
two_stars = 0x03 ∷ 0x02 ∷ 0x07 ∷ 0x00 ∷ 0x00 ∷ 0x00 ∷ 0x00 ∷ 0x09 ∷ 0x00 ∷ 0x01 ∷ 0x01 ∷ 0x02 ∷ []

-- the first has number 0
abbrev empty_first : List ℕ
empty_first = 0x03 ∷ 0x02 ∷ 0x00 ∷ 0x00 ∷ 0x00 ∷ 0x00 ∷ 0x00 ∷ 0x09 ∷ 0x00 ∷ 0x01 ∷ 0x01 ∷ 0x02 ∷ []

abbrev count3001 : List ℕ
count3001 = 0xb9 ∷ 0x17 ∷ []

abbrev turn_of_three : List ℕ
turn_of_three = 0x07 ∷ 0x80 ∷ 0xc8 ∷ 0xfd ∷ 0xe9 ∷ 0x04 ∷ 0x00 ∷ []

abbrev turn_cut_short : List ℕ
turn_cut_short = turn_of_three ++ (0x00 ∷ [])

abbrev whole_turn : List ℕ
whole_turn = turn_of_three ++ (0x00 ∷ 0x00 ∷ [])

-- five numbers; three of them are a star that stands still
abbrev five_numbers : List ℕ
five_numbers = 0x07 ∷ 0x00 ∷ 0x02 ∷ 0x03 ∷ 0x08 ∷ []

abbrev on_turn : Star
on_turn = record { number = 7; asc = turn; dec = pos 0; asc_rate = pos 0; dec_rate = pos 0 }

abbrev south : Star
south = record { number = 7; asc = 1; dec = negsuc 0; asc_rate = negsuc 1; dec_rate = pos 4 }

-- ---- the head

pub open_varies : Varies (open_rule (0x03 ∷ 0x01 ∷ [])) (open_rule (0x03 ∷ 0xb8 ∷ 0x17 ∷ []))
unfolding computed
open_varies = record { here = refl; there = refl; apart = apart (of_answer of_head) refl }

pub empty_is_eleven_excluded : empty_is_eleven [] ≢ mark_refusal []
unfolding computed
empty_is_eleven_excluded = apart of_number refl

pub any_first_byte_excluded : any_first_byte (0x01 ∷ []) ≢ mark_refusal (0x01 ∷ [])
unfolding computed
any_first_byte_excluded = apart of_number refl

pub byte_four_taken_excluded : byte_four_taken (0x04 ∷ []) ≢ mark_refusal (0x04 ∷ [])
unfolding computed
byte_four_taken_excluded = apart of_number refl

pub byte_two_refused_excluded : byte_two_refused (0x02 ∷ []) ≢ mark_refusal (0x02 ∷ [])
unfolding computed
byte_two_refused_excluded = apart of_number refl

pub count_3001_taken_excluded : count_3001_taken count3001 ≢ read_count count3001
unfolding computed then
count_3001_taken_excluded = apart (of_answer of_count) refl

-- ---- a star

pub star_varies : Varies (star_at_rule two_stars 2) (star_at_rule two_stars 7)
unfolding computed
star_varies = record { here = refl; there = refl; apart = apart (of_answer of_received) refl }

pub range_unchecked_excluded : range_unchecked true whole_turn ≢ read_star true whole_turn
unfolding computed
range_unchecked_excluded = apart (of_answer of_star) refl

pub nine_before_the_last_number_excluded : nine_before_the_last_number true turn_cut_short ≢ read_star true turn_cut_short
unfolding computed then
nine_before_the_last_number_excluded = apart (of_answer of_star) refl

pub nine_before_the_rates_excluded : nine_before_the_rates turn_of_three ≢ read_star true turn_of_three
unfolding computed then
nine_before_the_rates_excluded = apart (of_answer of_star) refl

pub byte_two_with_rates_excluded : byte_two_with_rates five_numbers ≢ read_star false five_numbers
unfolding computed
byte_two_with_rates_excluded = apart (of_answer of_star) refl

pub byte_two_with_five_numbers_excluded : byte_two_with_five_numbers (0x02 ∷ 0x01 ∷ five_numbers) 2 ≢ star_at_rule (0x02 ∷ 0x01 ∷ five_numbers) 2
unfolding computed
byte_two_with_five_numbers_excluded = apart (of_answer of_received) refl

pub byte_three_with_three_numbers_excluded : byte_three_with_three_numbers (0x03 ∷ 0x01 ∷ five_numbers) 2 ≢ star_at_rule (0x03 ∷ 0x01 ∷ five_numbers) 2
unfolding computed
byte_three_with_three_numbers_excluded = apart (of_answer of_received) refl

pub rates_read_traded_excluded : rates_read_traded five_numbers ≢ read_star true five_numbers
unfolding computed
rates_read_traded_excluded = apart (of_answer of_star) refl

pub rates_read_as_they_stand_excluded : rates_read_as_they_stand five_numbers ≢ read_star true five_numbers
unfolding computed
rates_read_as_they_stand_excluded = apart (of_answer of_star) refl

pub own_offset_excluded : own_offset two_stars 2 ≢ star_at_rule two_stars 2
unfolding computed
own_offset_excluded = apart (of_answer of_received) refl

pub empty_passed_over_excluded : empty_passed_over empty_first 2 ≢ star_at_rule empty_first 2
unfolding computed then
empty_passed_over_excluded = apart (of_answer of_received) refl

-- ---- the whole list

pub accept_varies : Varies (accept_rule (0x03 ∷ 0x00 ∷ [])) (accept_rule two_stars)
unfolding computed
accept_varies = record { here = refl; there = refl; apart = apart (of_answer of_number) refl }

pub byte_over_taken_excluded : byte_over_taken (0x03 ∷ 0x00 ∷ 0x00 ∷ []) ≢ accept_rule (0x03 ∷ 0x00 ∷ 0x00 ∷ [])
unfolding computed then
byte_over_taken_excluded = apart (of_answer of_number) refl

pub twelve_for_bytes_over_excluded : twelve_for_bytes_over (0x03 ∷ 0x00 ∷ 0x00 ∷ []) ≢ accept_rule (0x03 ∷ 0x00 ∷ 0x00 ∷ [])
unfolding computed then
twelve_for_bytes_over_excluded = apart (of_answer of_number) refl

-- under either first byte
pub accepts_3001_excluded : accepts3001 (0x03 ∷ count3001) ≢ accept_rule (0x03 ∷ count3001)
unfolding computed then
accepts_3001_excluded = apart (of_answer of_number) refl

pub accepts_3001_of_before_excluded : accepts3001 (0x02 ∷ count3001) ≢ accept_rule (0x02 ∷ count3001)
unfolding computed then
accepts_3001_of_before_excluded = apart (of_answer of_number) refl

-- ---- a list written

pub ascension_first_excluded : ascension_first south ≢ star_groups south
unfolding computed
ascension_first_excluded = apart of_bytes refl

pub declination_unfolded_excluded : declination_unfolded south ≢ star_groups south
unfolding computed
declination_unfolded_excluded = apart of_bytes refl

pub rates_written_traded_excluded : rates_written_traded south ≢ star_groups south
unfolding computed
rates_written_traded_excluded = apart of_bytes refl

pub rates_unfolded_excluded : rates_unfolded south ≢ star_groups south
unfolding computed
rates_unfolded_excluded = apart of_bytes refl

pub rates_left_out_excluded : rates_left_out south ≢ star_groups south
unfolding computed
rates_left_out_excluded = apart of_bytes refl

pub byte_two_written_excluded : byte_two_written 1 ≢ head_bytes 1
unfolding computed
byte_two_written_excluded = apart of_bytes refl

pub count_left_out_excluded : count_left_out (south ∷ []) ≢ radio_bytes (south ∷ [])
unfolding computed
count_left_out_excluded = apart of_bytes refl

pub bytes_counted_excluded : bytes_counted (south ∷ []) ≢ radio_bytes (south ∷ [])
unfolding computed
bytes_counted_excluded = apart of_bytes refl

-- ---- a text put

pub head_varies : Varies (head_text 0) (head_text 1)
unfolding computed
head_varies = record { here = refl; there = refl; apart = apart (of_answer of_bytes) refl }

pub put_varies : Varies (star_text south) (star_text (record { number = 9; asc = 1; dec = pos 0; asc_rate = pos 0; dec_rate = pos 0 }))
unfolding computed
put_varies = record { here = refl; there = refl; apart = apart (of_answer of_bytes) refl }

pub count_3001_put_excluded : count_3001_put 3001 ≢ head_text 3001
unfolding computed
count_3001_put_excluded = apart (of_answer of_bytes) refl

pub any_star_put_excluded : any_star_put on_turn ≢ star_text on_turn
unfolding computed
any_star_put_excluded = apart (of_answer of_bytes) refl

-- a star out of range, in an empty slice
pub eight_before_nine_excluded : eight_before_nine [] 0 on_turn ≢ room_for [] 0 (star_text on_turn)
unfolding computed
eight_before_nine_excluded = apart (of_answer of_bytes) refl
