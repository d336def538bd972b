-- Wrong variants are excluded: each differs from the rule at the input stated.
use Rattle.std.specs.Prelude.{ℕ, ◌*◌, refl, false, List, [], ◌∷◌, pos, get_or, ◌≢◌}
use Rattle.std.specs.Float.{inf}
use Rattle.double.specs.rules.Operations.{one, two}
use Rattle.double.specs.notions.Code.{of_number}
use Rattle.double.specs.laws.Apart.{apart}
use Rattle.quantity.specs.rules.Answer.{Answer, answered, refused, Pair, pair, status_of}
use Rattle.quantity.specs.rules.Refusal.{epoch}
use Rattle.quantity.specs.notions.Code.{of_float}
use Rattle.elementary.specs.notions.Computed.{computed}
use Rattle.lent.specs.rules.Rows.{upto}
use Rattle.lent.specs.notions.Code.{of_bytes}
use Rattle.precess_angles.specs.rules.Days.{days_refusal}
use Rattle.list.specs.declared.Star.{Star}
use Rattle.list.specs.rules.Record.{width, turn, quarter, in_range}
use Rattle.list.specs.rules.Stars.{is_list, count_of, nought}
use Rattle.list_tally.specs.declared.Tally.{Tally}
use Rattle.list_tally.specs.rules.Tally.{tally_of}
use Rattle.star_store.specs.rules.Star.{star_refusal, earlier, first_of, second_of}
use Rattle.star_store.specs.rules.Stored.{store_refusal, lent_rule}
use Rattle.star_store.specs.notions.Stated.{past_the_pole}
use Rattle.star_store.specs.notions.Wrong.{three_before_nine, three_of_the_record, nine_before_ten, empty_place_reduced, later_before_earlier}
use Rattle.star_store.specs.notions.Wrong.{status_always_good, angle_always_zero, angles_traded, refused_star_keeps_angle}
use Rattle.star_store.specs.notions.Wrong.{invented_tally, nothing_written, short_slice_accepted, days_after_list}

-- ---- one star

-- a right ascension out of range at an empty place
abbrev empty_beyond : Star
empty_beyond = record { number = 0; asc = turn; dec = pos 0; asc_rate = pos 0; dec_rate = pos 0 }

-- past the pole a year later, its right ascension out of range
abbrev past_the_pole_beyond : Star
past_the_pole_beyond = record { number = 1; asc = turn; dec = pos quarter; asc_rate = pos 0; dec_rate = pos 1 }

pub three_before_nine_excluded : three_before_nine past_the_pole_beyond one ≢ star_refusal past_the_pole_beyond one
unfolding computed star_refusal in_range
three_before_nine_excluded = apart of_number refl

pub three_of_the_record_excluded : three_of_the_record past_the_pole one ≢ star_refusal past_the_pole one
unfolding computed star_refusal in_range
three_of_the_record_excluded = apart of_number refl

pub nine_before_ten_excluded : nine_before_ten empty_beyond one ≢ star_refusal empty_beyond one
unfolding computed star_refusal in_range
nine_before_ten_excluded = apart of_number refl

pub empty_place_reduced_excluded : empty_place_reduced nought one ≢ star_refusal nought one
unfolding computed star_refusal in_range
empty_place_reduced_excluded = apart of_number refl

pub later_before_earlier_excluded : later_before_earlier 9 14 ≢ earlier 9 14
later_before_earlier_excluded = apart of_number refl

-- ---- what is stored

abbrev one_two : Answer Pair
one_two = answered (pair one two)

pub status_always_good_excluded : status_always_good (refused 9) ≢ status_of {A = Pair} (refused 9)
status_always_good_excluded = apart of_number refl

pub angle_always_zero_excluded : angle_always_zero one_two ≢ first_of one_two
unfolding computed
angle_always_zero_excluded = apart of_float refl

pub angles_traded_excluded : angles_traded one_two ≢ first_of one_two
unfolding computed
angles_traded_excluded = apart of_float refl

pub refused_star_keeps_angle_excluded : refused_star_keeps_angle (refused 9) ≢ second_of (refused 9)
unfolding computed
refused_star_keeps_angle_excluded = apart of_float refl

-- ---- the list

-- records of zeros
abbrev zeros : ℕ → List ℕ
zeros n = upto (width * n) (λ (i : ℕ). 0)

pub invented_tally_excluded : invented_tally (9 ∷ []) ≢ tally_of (9 ∷ [])
unfolding tally_of
invented_tally_excluded = apart (λ (t : Tally). get_or t.counts 9 0) refl

-- the status of a star out of range, in a slice that holds a 7
pub nothing_written_excluded : nothing_written (9 ∷ []) (7 ∷ []) ≢ lent_rule 0 (9 ∷ []) (7 ∷ [])
nothing_written_excluded = apart of_bytes refl

-- a list of one star, and no place for its right ascension
pub short_slice_accepted_excluded : short_slice_accepted (zeros 1) epoch epoch 1 0 1 ≢ store_refusal (zeros 1) epoch epoch 1 0 1
unfolding computed days_refusal store_refusal is_list count_of
short_slice_accepted_excluded = apart of_number refl

-- one byte is no list
pub days_after_list_excluded : days_after_list (0 ∷ []) (inf false) epoch 0 0 0 ≢ store_refusal (0 ∷ []) (inf false) epoch 0 0 0
unfolding computed days_refusal store_refusal is_list
days_after_list_excluded = apart of_number refl
