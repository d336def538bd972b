-- Wrong variants of the radio list: of its reader and its writer.
use Rattle.std.specs.Prelude.{ℕ, suc, ◌+◌, Bool, true, false, cond, List, [], ◌∷◌, ◌++◌, eqb, ltb, leb, pos, length, drop, get_or}
use Rattle.quantity.specs.rules.Answer.{Answer, answered, refused, unless, with, then}
use Rattle.signed.specs.rules.Signed.{word_of}
use Rattle.list.specs.declared.Star.{Star}
use Rattle.list.specs.rules.Record.{turn}
use Rattle.list.specs.rules.Stars.{most_stars, is_kept}
use Rattle.list_groups.specs.rules.Groups.{groups}
use Rattle.list_groups.specs.rules.Reading.{Got, read_number, AtOffset, read_at}
use Rattle.list_groups.specs.rules.Several.{spell_all, read_all}
use Rattle.list_groups.specs.rules.Fold.{folded, unfolded}
use Rattle.list_radio.specs.rules.Star.{number_count, star_of, star_groups, read_star}
use Rattle.list_radio.specs.rules.Radio.{mark, head_bytes, mark_refusal, is_moving, read_count, nothing_over}
use Rattle.list_radio.specs.rules.Reader.{star_at_rule}
use Rattle.list_radio.specs.rules.Put.{star_text}

-- ---- the head

abbrev pub empty_is_eleven : List ℕ → ℕ
empty_is_eleven [] = 11
empty_is_eleven (b ∷ bs) = mark_refusal (b ∷ bs)

abbrev pub any_first_byte : List ℕ → ℕ
any_first_byte [] = 13
any_first_byte (b ∷ bs) = 0

-- byte 4 as well
abbrev pub byte_four_taken : List ℕ → ℕ
byte_four_taken [] = 13
byte_four_taken (b ∷ bs) = cond (eqb b 4) 0 (mark_refusal (b ∷ bs))

-- the lists of before refused
abbrev pub byte_two_refused : List ℕ → ℕ
byte_two_refused [] = 13
byte_two_refused (b ∷ bs) = cond (eqb b (mark true)) 0 11

-- one star more than a list may have
abbrev pub count_3001_taken : List ℕ → Answer (Got ℕ)
count_3001_taken bs = then (read_number bs) (λ (g : Got ℕ). cond (leb g.value (suc most_stars)) (answered g) (refused 8))

-- ---- a star

-- a star out of range answered
abbrev pub range_unchecked : Bool → List ℕ → Answer (Got Star)
range_unchecked moving bs =
    with (λ (g : Got (List ℕ)). record { value = star_of g.value; rest = g.rest }) (read_all read_number (number_count moving) bs)

-- 9 for the right ascension, before the star's last number is read
abbrev pub nine_before_the_last_number : Bool → List ℕ → Answer (Got Star)
nine_before_the_last_number moving bs =
    then (read_number bs)
    (λ (n : Got ℕ).
    then (read_number n.rest)
    (λ (a : Got ℕ). cond (ltb a.value turn) (read_star moving bs) (refused 9)))

-- 9 for the place, before the yearly changes are read
abbrev pub nine_before_the_rates : List ℕ → Answer (Got Star)
nine_before_the_rates bs = then (read_star false bs) (λ (g : Got Star). read_star true bs)

-- five numbers under byte 2, and three under byte 3
abbrev pub byte_two_with_five_numbers : List ℕ → ℕ → Answer (AtOffset Star)
byte_two_with_five_numbers s at = unless (mark_refusal s) (read_at (read_star true) s at)

abbrev pub byte_three_with_three_numbers : List ℕ → ℕ → Answer (AtOffset Star)
byte_three_with_three_numbers s at = unless (mark_refusal s) (read_at (read_star false) s at)

-- the declination as both yearly changes
abbrev pub byte_two_with_rates : List ℕ → Answer (Got Star)
byte_two_with_rates bs =
    with (λ (g : Got (List ℕ)). record { value = star_of (g.value ++ drop 2 g.value ++ drop 2 g.value); rest = g.rest })
    (read_all read_number (number_count false) bs)

-- five numbers, with another star of them
abbrev five_as : (List ℕ → Star) → List ℕ → Answer (Got Star)
five_as star bs = with (λ (g : Got (List ℕ)). record { value = star g.value; rest = g.rest }) (read_all read_number (number_count true) bs)

abbrev pub rates_read_traded : List ℕ → Answer (Got Star)
rates_read_traded =
    five_as (λ (ns : List ℕ). star_of (get_or ns 0 0 ∷ get_or ns 1 0 ∷ get_or ns 2 0 ∷ get_or ns 4 0 ∷ get_or ns 3 0 ∷ []))

-- a yearly change as the number that stands there
abbrev pub rates_read_as_they_stand : List ℕ → Answer (Got Star)
rates_read_as_they_stand =
    five_as
    (λ (ns : List ℕ).
    record {
      number = get_or ns 0 0;
      asc = get_or ns 1 0;
      dec = unfolded (get_or ns 2 0);
      asc_rate = pos (get_or ns 3 0);
      dec_rate = pos (get_or ns 4 0);
    })

-- the star with its own offset
abbrev pub own_offset : List ℕ → ℕ → Answer (AtOffset Star)
own_offset s at =
    unless (mark_refusal s) (with (λ (g : Got Star). record { value = g.value; offset = at }) (read_star (is_moving s) (drop at s)))

-- a star of number 0 not shown, and the next in its place
abbrev pub empty_passed_over : List ℕ → ℕ → Answer (AtOffset Star)
empty_passed_over s at =
    then (star_at_rule s at) (λ (p : AtOffset Star). cond (is_kept p.value) (answered p) (star_at_rule s p.offset))

-- ---- the whole list

-- with another test of the first byte, another count, and another end
abbrev accepting : (List ℕ → ℕ) → (List ℕ → Answer (Got ℕ)) → (Got (List Star) → Answer (List Star)) → List ℕ → Answer ℕ
accepting first count end s =
    with length (unless (first s) (then (count (drop 1 s)) (λ (g : Got ℕ). then (read_all (read_star (is_moving s)) g.value g.rest) end)))

abbrev pub byte_over_taken : List ℕ → Answer ℕ
byte_over_taken = accepting mark_refusal read_count (λ (g : Got (List Star)). answered g.value)

abbrev pub accepts3001 : List ℕ → Answer ℕ
accepts3001 = accepting mark_refusal count_3001_taken nothing_over

-- 12 for bytes over
abbrev pub twelve_for_bytes_over : List ℕ → Answer ℕ
twelve_for_bytes_over =
    accepting mark_refusal read_count (λ (g : Got (List Star)). cond (eqb (length g.rest) 0) (answered g.value) (refused 12))

-- ---- a list written

abbrev pub ascension_first : Star → List ℕ
ascension_first r = spell_all groups (r.asc ∷ r.number ∷ folded r.dec ∷ folded r.asc_rate ∷ folded r.dec_rate ∷ [])

abbrev pub declination_unfolded : Star → List ℕ
declination_unfolded r = spell_all groups (r.number ∷ r.asc ∷ word_of r.dec ∷ folded r.asc_rate ∷ folded r.dec_rate ∷ [])

abbrev pub rates_written_traded : Star → List ℕ
rates_written_traded r = spell_all groups (r.number ∷ r.asc ∷ folded r.dec ∷ folded r.dec_rate ∷ folded r.asc_rate ∷ [])

abbrev pub rates_unfolded : Star → List ℕ
rates_unfolded r = spell_all groups (r.number ∷ r.asc ∷ folded r.dec ∷ word_of r.asc_rate ∷ word_of r.dec_rate ∷ [])

abbrev pub rates_left_out : Star → List ℕ
rates_left_out r = spell_all groups (r.number ∷ r.asc ∷ folded r.dec ∷ [])

-- the first byte of before
abbrev pub byte_two_written : ℕ → List ℕ
byte_two_written n = mark false ∷ groups n

abbrev pub count_left_out : List Star → List ℕ
count_left_out rs = mark true ∷ spell_all star_groups rs

-- how many bytes in place of how many stars
abbrev pub bytes_counted : List Star → List ℕ
bytes_counted rs = head_bytes (length (spell_all star_groups rs)) ++ spell_all star_groups rs

-- ---- a text put

-- 8 before the star's own 9
abbrev pub eight_before_nine : List ℕ → ℕ → Star → Answer (List ℕ)
eight_before_nine old at r = cond (leb (at + length (star_groups r)) (length old)) (star_text r) (refused 8)

abbrev pub count_3001_put : ℕ → Answer (List ℕ)
count_3001_put n = cond (leb n (suc most_stars)) (answered (head_bytes n)) (refused 8)

abbrev pub any_star_put : Star → Answer (List ℕ)
any_star_put r = answered (star_groups r)
