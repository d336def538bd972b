-- Wrong variants are excluded: each differs from the rule at the input stated. A rule varies: a library that refuses everything, or
-- answers a constant, does not meet it.
use Rattle.std.specs.Prelude.{ℕ, suc, ◌*◌, ◌≡◌, refl, List, [], ◌∷◌, ◌++◌, pos, negsuc, nat_abs, length, ◌≢◌}
use Rattle.double.specs.notions.Code.{of_flag, of_number}
use Rattle.double.specs.laws.Apart.{apart}
use Rattle.quantity.specs.notions.Code.{of_answer}
use Rattle.quantity.specs.notions.Varies.{Varies}
use Rattle.lent.specs.rules.Rows.{upto}
use Rattle.lent.specs.notions.Code.{of_bytes}
use Rattle.list.specs.declared.Star.{Star}
use Rattle.list.specs.rules.Record.{width, star_at, turn, fastest, in_range, word_bytes, star_bytes}
use Rattle.list.specs.rules.Stars.{most_stars, is_list, count_of, nought, nth}
use Rattle.list.specs.rules.Reader.{read_rule}
use Rattle.list.specs.rules.Writer.{record_text}
use Rattle.list.specs.rules.Find.{find_rule}
use Rattle.list.specs.notions.Code.{of_item, of_entry}
use Rattle.list.specs.notions.Computed.{computed}
use Rattle.list.specs.notions.Wrong.{whole_turn_in_range, one_star_too_many, part_records_counted, end_refused, big_endian_read, next_within_record, empty_shown, end_at_the_first_empty}
use Rattle.list.specs.notions.Wrong.{first_star_repeated, faster_in_range, dec_rate_untested, twelve_for_twenty, rates_traded, rates_without_sign, rates_written_traded}
use Rattle.list.specs.notions.Wrong.{big_endian_written, number_written_twice, out_of_range_put}
use Rattle.list.specs.notions.Wrong.{put_within_record, put_past_the_last, eight_before_nine, last_number_found, empty_found, nine_before_ten}

-- records of zeros, and the record of a star with the number 1
abbrev zeros : ℕ → List ℕ
zeros n = upto (width * n) (λ (i : ℕ). 0)

abbrev star1 : List ℕ
star1 = 1 ∷ upto 19 (λ (i : ℕ). 0)

-- ---- a star, and a list

-- a star with one field that is not zero
abbrev numbered : ℕ → Star
numbered n = record { number = n; asc = 0; dec = pos 0; asc_rate = pos 0; dec_rate = pos 0 }

abbrev on_turn : Star
on_turn = record { number = 0; asc = turn; dec = pos 0; asc_rate = pos 0; dec_rate = pos 0 }

abbrev too_fast : Star
too_fast = record { number = 0; asc = 0; dec = pos 0; asc_rate = pos 0; dec_rate = negsuc fastest }

pub whole_turn_in_range_excluded : whole_turn_in_range on_turn ≢ in_range on_turn
unfolding computed
whole_turn_in_range_excluded = apart of_flag refl

pub faster_in_range_excluded : faster_in_range too_fast ≢ in_range too_fast
unfolding computed
faster_in_range_excluded = apart of_flag refl

pub dec_rate_untested_excluded : dec_rate_untested too_fast ≢ in_range too_fast
unfolding computed
dec_rate_untested_excluded = apart of_flag refl

-- of any bytes for one star of before
pub twelve_for_twenty_excluded : (s : List ℕ) → length s ≡ 12 → twelve_for_twenty s ≢ is_list s
unfolding computed
twelve_for_twenty_excluded s h = rw h (apart of_flag refl)

-- of any bytes for one star more than a list may have
pub one_star_too_many_excluded : (s : List ℕ) → length s ≡ width * suc most_stars → one_star_too_many s ≢ is_list s
unfolding computed
one_star_too_many_excluded s h = rw h (apart of_flag refl)

pub part_records_counted_excluded : part_records_counted (zeros 1) ≢ count_of (zeros 1)
unfolding computed
part_records_counted_excluded = apart of_number refl

pub first_star_repeated_excluded : first_star_repeated (zeros 1 ++ star1) 1 ≢ nth (zeros 1 ++ star1) 1
unfolding computed
first_star_repeated_excluded = apart (λ (r : Star). r.number) refl

-- ---- the reader

pub read_varies : Varies (read_rule star1 0) (read_rule star1 width)
unfolding computed
read_varies = record { here = refl; there = refl; apart = apart (of_answer of_item) refl }

pub end_refused_excluded : end_refused [] 0 ≢ read_rule [] 0
unfolding computed
end_refused_excluded = apart (of_answer of_item) refl

pub big_endian_read_excluded : big_endian_read star1 0 ≢ read_rule star1 0
unfolding computed
big_endian_read_excluded = apart (of_answer of_item) refl

pub next_within_record_excluded : next_within_record star1 0 ≢ read_rule star1 0
unfolding computed
next_within_record_excluded = apart (of_answer of_item) refl

pub empty_shown_excluded : empty_shown (zeros 1) 0 ≢ read_rule (zeros 1) 0
unfolding computed
empty_shown_excluded = apart (of_answer of_item) refl

pub end_at_the_first_empty_excluded : end_at_the_first_empty (zeros 1 ++ star1) 0 ≢ read_rule (zeros 1 ++ star1) 0
unfolding computed
end_at_the_first_empty_excluded = apart (of_answer of_item) refl

-- rates of −1 and 0, and what is read of them
abbrev star2 : List ℕ
star2 = upto 12 (λ (i : ℕ). 0) ++ upto 4 (λ (i : ℕ). 255) ++ upto 4 (λ (i : ℕ). 0)

pub rates_traded_excluded : rates_traded star2 0 ≢ star_at star2 0
unfolding computed
rates_traded_excluded = apart (λ (r : Star). nat_abs r.asc_rate) refl

pub rates_without_sign_excluded : rates_without_sign star2 0 ≢ star_at star2 0
unfolding computed
rates_without_sign_excluded = apart (λ (r : Star). nat_abs r.asc_rate) refl

-- ---- the writer

pub big_endian_written_excluded : big_endian_written 1 ≢ word_bytes 1
unfolding computed
big_endian_written_excluded = apart of_bytes refl

pub number_written_twice_excluded : number_written_twice (numbered 7) ≢ star_bytes (numbered 7)
unfolding computed
number_written_twice_excluded = apart of_bytes refl

pub rates_written_traded_excluded : rates_written_traded too_fast ≢ star_bytes too_fast
unfolding computed
rates_written_traded_excluded = apart of_bytes refl

pub record_varies : Varies (record_text 0 nought) (record_text 0 (numbered 7))
unfolding computed
record_varies = record { here = refl; there = refl; apart = apart (of_answer of_bytes) refl }

pub out_of_range_put_excluded : out_of_range_put 0 on_turn ≢ record_text 0 on_turn
unfolding computed
out_of_range_put_excluded = apart (of_answer of_bytes) refl

pub put_within_record_excluded : put_within_record 1 nought ≢ record_text 1 nought
unfolding computed
put_within_record_excluded = apart (of_answer of_bytes) refl

pub put_past_the_last_excluded : put_past_the_last (width * most_stars) nought ≢ record_text (width * most_stars) nought
unfolding computed
put_past_the_last_excluded = apart (of_answer of_bytes) refl

pub eight_before_nine_excluded : eight_before_nine 1 on_turn ≢ record_text 1 on_turn
unfolding computed
eight_before_nine_excluded = apart (of_answer of_bytes) refl

-- ---- find

pub find_varies : Varies (find_rule star1 1) (find_rule (zeros 1 ++ star1) 1)
unfolding computed
find_varies = record { here = refl; there = refl; apart = apart (of_answer of_entry) refl }

pub last_number_found_excluded : last_number_found (star1 ++ star1) 1 ≢ find_rule (star1 ++ star1) 1
unfolding computed
last_number_found_excluded = apart (of_answer of_entry) refl

pub empty_found_excluded : empty_found (zeros 1) 0 ≢ find_rule (zeros 1) 0
unfolding computed
empty_found_excluded = apart (of_answer of_entry) refl

pub nine_before_ten_excluded : nine_before_ten [] 1 ≢ find_rule [] 1
unfolding computed
nine_before_ten_excluded = apart (of_answer of_entry) refl
