-- Wrong variants are excluded: each differs from the rule at the text stated.
use Rattle.std.specs.Prelude.{ℕ, refl, List, [], ◌∷◌, length, ◌≢◌, Result, Ok, Err}
use Rattle.double.specs.laws.Apart.{apart}
use Rattle.text_number.specs.rules.Bytes.{ascii}
use Rattle.text_fields.specs.declared.Stopped.{Stopped}
use Rattle.text_fields.specs.declared.Stopped.TheVariants as stopped
use Rattle.text_fields.specs.rules.Lines.{lines}
use Rattle.text_fields.specs.rules.Walk.{told_of}
use Rattle.text_fields.specs.rules.Stored.{sights_with, stored_rule}
use Rattle.text_fields.specs.notions.Wrong.{comment_taken, unclear_passed_over}
use Rattle.text_measured.specs.rules.Sight.{sight_rule, line_rule}
use Rattle.text_measured.specs.rules.Sights.{Entry, entry_of, entries_of, ending_of, sights_rule}
use Rattle.text_measured.specs.notions.Code.{of_told, of_asc}
use Rattle.text_measured.specs.notions.Computed.{computed}
use Rattle.text_measured.specs.notions.Wrong.{fourth_field_ignored, coordinates_swapped, line_among_sights}

abbrev four : List ℕ
four = ascii "1 2 3 4"

abbrev noted : List ℕ
noted = ascii "1 2 3 # a"

abbrev plain : List ℕ
plain = ascii "1 2 3"

abbrev second : List ℕ
second = ascii "\n1 2 3"

pub line_varies : line_rule four ≢ line_rule plain
unfolding computed
line_varies = apart of_told refl

pub fourth_field_ignored_excluded : told_of fourth_field_ignored four ≢ line_rule four
unfolding computed
fourth_field_ignored_excluded = apart of_told refl

pub comment_taken_excluded : comment_taken sight_rule noted ≢ line_rule noted
unfolding computed
comment_taken_excluded = apart of_told refl

pub coordinates_swapped_excluded : told_of coordinates_swapped plain ≢ line_rule plain
unfolding computed
coordinates_swapped_excluded = apart of_asc refl

-- a line that cannot be read, and a sight behind it
abbrev behind : List ℕ
behind = ascii "a\n1 2 3"

-- two sights
abbrev two : List ℕ
two = ascii "1 2 3\n4 5 6"

-- which of its cases an answer is
abbrev of_sights : Result ℕ Stopped → ℕ
of_sights (Ok n) = 0
of_sights (Err (stopped.Unclear line)) = 1
of_sights (Err stopped.Full) = 2

-- entries by their first line
abbrev of_entries : List Entry → ℕ
of_entries [] = 0
of_entries (e ∷ es) = e.line

pub sights_vary : entries_of second ≢ entries_of four
unfolding computed
sights_vary = apart of_entries refl

pub unclear_passed_over_excluded : unclear_passed_over sight_rule entry_of 0 (lines behind) ≢ entries_of behind
unfolding computed
unclear_passed_over_excluded = apart of_entries refl

pub line_among_sights_excluded : line_among_sights 0 (entries_of second) ≢ entries_of second
unfolding computed
line_among_sights_excluded = apart of_entries refl

-- two sights into one place
pub room_not_asked_excluded : sights_with (length (entries_of two)) (ending_of two) ≢ sights_rule 1 two
unfolding computed stored_rule
room_not_asked_excluded = apart of_sights refl
