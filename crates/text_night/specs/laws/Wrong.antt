-- Wrong variants are excluded: each differs from the rule at the text stated. The rules vary.
use Rattle.std.specs.Prelude.{ℕ, refl, List, pos, ◌≢◌}
use Rattle.double.specs.laws.Apart.{apart}
use Rattle.text_number.specs.rules.Bytes.{ascii}
use Rattle.text_fields.specs.rules.Lines.{lines}
use Rattle.text_fields.specs.rules.Walk.{told_of}
use Rattle.text_fields.specs.notions.Wrong.{comment_taken, unclear_passed_over, counted_from_zero}
use Rattle.text_night.specs.rules.Sight.{sight_rule, line_rule}
use Rattle.text_night.specs.rules.Sights.{entry_of, entries_of}
use Rattle.text_night.specs.notions.Code.{of_told, of_day, of_number, of_star, of_entries}
use Rattle.text_night.specs.notions.Computed.{computed}
use Rattle.text_night.specs.notions.Wrong.{readings_traded, number_first, fifth_field_ignored, dut1_left_out}

abbrev plain : List ℕ
plain = ascii "1 2 3 4"

abbrev five : List ℕ
five = ascii "1 2 3 4 5"

abbrev noted : List ℕ
noted = ascii "1 2 3 4 # a"

abbrev dated : List ℕ
dated = ascii "2028-11-13 2 3 4"

-- a line that says nothing, one that cannot be read, and a sight behind it
abbrev second : List ℕ
second = ascii "\n1 2 3 4"

abbrev behind : List ℕ
behind = ascii "a\n1 2 3 4"

pub line_varies : line_rule (pos 0) plain ≢ line_rule (pos 0) five
unfolding computed
line_varies = apart (of_told of_number) refl

pub readings_traded_excluded : told_of (readings_traded (pos 0)) plain ≢ line_rule (pos 0) plain
unfolding computed
readings_traded_excluded = apart (of_told of_star) refl

pub number_first_excluded : told_of (number_first (pos 0)) plain ≢ line_rule (pos 0) plain
unfolding computed
number_first_excluded = apart (of_told of_number) refl

pub fifth_field_ignored_excluded : told_of (fifth_field_ignored (pos 0)) five ≢ line_rule (pos 0) five
unfolding computed
fifth_field_ignored_excluded = apart (of_told of_number) refl

pub dut1_left_out_excluded : told_of (dut1_left_out (pos 900)) dated ≢ line_rule (pos 900) dated
unfolding computed
dut1_left_out_excluded = apart (of_told of_day) refl

pub comment_taken_excluded : comment_taken (sight_rule (pos 0)) noted ≢ line_rule (pos 0) noted
unfolding computed
comment_taken_excluded = apart (of_told of_number) refl

pub sights_vary : entries_of (pos 0) second ≢ entries_of (pos 0) five
unfolding computed
sights_vary = apart of_entries refl

pub unclear_passed_over_excluded : unclear_passed_over (sight_rule (pos 0)) entry_of 0 (lines behind) ≢ entries_of (pos 0) behind
unfolding computed
unclear_passed_over_excluded = apart of_entries refl

pub counted_from_zero_excluded : counted_from_zero (sight_rule (pos 0)) entry_of second ≢ entries_of (pos 0) second
unfolding computed
counted_from_zero_excluded = apart of_entries refl
