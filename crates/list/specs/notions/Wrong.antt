-- Wrong variants of the stored list.
use Rattle.std.specs.Prelude.{ℕ, suc, ◌+◌, ◌*◌, ◌/◌, ◌%◌, Bool, cond, ◌&&◌, List, [], ◌∷◌, eqb, leb, ltb, ℤ, pos, nat_abs, length, get_or}
use Rattle.quantity.specs.rules.Answer.{Answer, answered, refused}
use Rattle.signed.specs.rules.Signed.{word_of, signed_of}
use Rattle.list.specs.declared.Star.{Star}
use Rattle.list.specs.rules.Record.{width, word_at, star_at, turn, quarter, fastest, in_range, words_bytes, star_bytes}
use Rattle.list.specs.rules.Stars.{most_stars, is_list, stars, is_kept, nth}
use Rattle.list.specs.rules.Reader.{Item, item, none, is_offset, item_at}
use Rattle.list.specs.rules.Writer.{is_start}
use Rattle.list.specs.rules.Find.{Entry, index_of, entry, entry_at}

-- ---- a star, and a list

abbrev rates_within : ℕ → Star → Bool
rates_within most r = leb (nat_abs r.asc_rate) most && leb (nat_abs r.dec_rate) most

-- a whole turn itself
abbrev pub whole_turn_in_range : Star → Bool
whole_turn_in_range r = leb r.asc turn && (leb (nat_abs r.dec) quarter && rates_within fastest r)

-- a yearly change of 20001
abbrev pub faster_in_range : Star → Bool
faster_in_range r = ltb r.asc turn && (leb (nat_abs r.dec) quarter && rates_within (suc fastest) r)

-- one rate alone
abbrev pub dec_rate_untested : Star → Bool
dec_rate_untested r = ltb r.asc turn && (leb (nat_abs r.dec) quarter && leb (nat_abs r.asc_rate) fastest)

-- records of before, without rates
abbrev pub twelve_for_twenty : List ℕ → Bool
twelve_for_twenty s = leb (length s) (12 * most_stars) && eqb (length s % 12) 0

abbrev pub one_star_too_many : List ℕ → Bool
one_star_too_many s = leb (length s) (width * suc most_stars) && eqb (length s % width) 0

-- the bytes after the last whole record
abbrev pub part_records_counted : List ℕ → ℕ
part_records_counted s = length s % width

-- the first star, whatever the index
abbrev pub first_star_repeated : List ℕ → ℕ → Star
first_star_repeated s i = nth s 0

-- ---- the reader

-- with another test of the offset, and another item from it on
abbrev reading_by : (List ℕ → ℕ → Bool) → (List ℕ → ℕ → Item) → List ℕ → ℕ → Answer Item
reading_by accepts shown s at = cond (is_list s && accepts s at) (answered (shown s at)) (refused 8)

-- the record at the offset, by another star and another width
abbrev item_by : (List ℕ → ℕ → Star) → ℕ → List ℕ → ℕ → Item
item_by star size s at = cond (ltb at (length s)) (item (star s at) (at + size)) none

-- on to the next word
abbrev pub next_within_record : List ℕ → ℕ → Answer Item
next_within_record = reading_by is_offset (item_by star_at 4)

abbrev pub end_refused : List ℕ → ℕ → Answer Item
end_refused = reading_by (λ (s : List ℕ) (at : ℕ). ltb at (length s) && eqb (at % width) 0) (item_by star_at width)

-- an empty place as a star of number 0
abbrev pub empty_shown : List ℕ → ℕ → Answer Item
empty_shown = reading_by is_offset (item_by star_at width)

-- none left at the first empty place
abbrev pub end_at_the_first_empty : List ℕ → ℕ → Answer Item
end_at_the_first_empty = reading_by is_offset (λ (s : List ℕ) (at : ℕ). cond (is_kept (nth s (at / width))) (item_at (stars s) (at / width)) none)

-- the high byte first
abbrev big_endian : List ℕ → ℕ → ℕ
big_endian s at = get_or s (at + 3) 0 + 256 * get_or s (at + 2) 0 + 65536 * get_or s (at + 1) 0 + 16777216 * get_or s at 0

abbrev pub big_endian_read : List ℕ → ℕ → Answer Item
big_endian_read =
    reading_by is_offset
    (item_by
    (λ (s : List ℕ) (at : ℕ).
    record {
      number = big_endian s at;
      asc = big_endian s (at + 4);
      dec = signed_of (big_endian s (at + 8));
      asc_rate = signed_of (big_endian s (at + 12));
      dec_rate = signed_of (big_endian s (at + 16));
    })
    width)

-- with other rates
abbrev rated : (List ℕ → ℕ → ℤ) → (List ℕ → ℕ → ℤ) → List ℕ → ℕ → Star
rated ascRate decRate s at =
    record {
      number = word_at s at;
      asc = word_at s (at + 4);
      dec = signed_of (word_at s (at + 8));
      asc_rate = ascRate s at;
      dec_rate = decRate s at;
    }

abbrev pub rates_traded : List ℕ → ℕ → Star
rates_traded = rated (λ (s : List ℕ) (at : ℕ). signed_of (word_at s (at + 16))) (λ (s : List ℕ) (at : ℕ). signed_of (word_at s (at + 12)))

abbrev pub rates_without_sign : List ℕ → ℕ → Star
rates_without_sign = rated (λ (s : List ℕ) (at : ℕ). pos (word_at s (at + 12))) (λ (s : List ℕ) (at : ℕ). pos (word_at s (at + 16)))

-- ---- the writer

-- the high byte first
abbrev pub big_endian_written : ℕ → List ℕ
big_endian_written n = n / 16777216 ∷ n / 65536 % 256 ∷ n / 256 % 256 ∷ n % 256 ∷ []

abbrev pub number_written_twice : Star → List ℕ
number_written_twice r = words_bytes (r.number ∷ r.number ∷ word_of r.dec ∷ word_of r.asc_rate ∷ word_of r.dec_rate ∷ [])

abbrev pub rates_written_traded : Star → List ℕ
rates_written_traded r = words_bytes (r.number ∷ r.asc ∷ word_of r.dec ∷ word_of r.dec_rate ∷ word_of r.asc_rate ∷ [])

abbrev pub out_of_range_put : ℕ → Star → Answer (List ℕ)
out_of_range_put at r = cond (is_start at) (answered (star_bytes r)) (refused 8)

-- with another test of the offset
abbrev putting : (ℕ → Bool) → ℕ → Star → Answer (List ℕ)
putting accepts at r = cond (in_range r) (cond (accepts at) (answered (star_bytes r)) (refused 8)) (refused 9)

abbrev pub put_within_record : ℕ → Star → Answer (List ℕ)
put_within_record = putting (λ (at : ℕ). ltb at (width * most_stars))

-- at the end of the longest list
abbrev pub put_past_the_last : ℕ → Star → Answer (List ℕ)
put_past_the_last = putting (λ (at : ℕ). leb at (width * most_stars) && eqb (at % width) 0)

-- 8 for the offset, before the star's own 9
abbrev pub eight_before_nine : ℕ → Star → Answer (List ℕ)
eight_before_nine at r = cond (is_start at) (cond (in_range r) (answered (star_bytes r)) (refused 9)) (refused 8)

-- ---- find

-- the last star with the number
abbrev last_index_of : ℕ → List Star → ℕ
last_index_of number [] = 0
last_index_of number (r ∷ rs) =
    cond (ltb (last_index_of number rs) (length rs)) (suc (last_index_of number rs))
    (cond (eqb r.number number) 0 (suc (length rs)))

abbrev pub last_number_found : List ℕ → ℕ → Answer Entry
last_number_found s number = cond (is_list s) (entry_at (stars s) (last_index_of number (stars s))) (refused 8)

-- an empty place as the star of number 0
abbrev pub empty_found : List ℕ → ℕ → Answer Entry
empty_found s number = cond (is_list s) (entry_at (stars s) (index_of number (stars s))) (refused 8)

-- 9 where no star has the number
abbrev pub nine_before_ten : List ℕ → ℕ → Answer Entry
nine_before_ten s number =
    let i = index_of number (stars s) in
    cond (is_list s) (cond (ltb i (length (stars s))) (entry i (nth s i)) (refused 9)) (refused 8)
