-- Wrong variants are excluded: each differs from the rule at the text stated.
use Rattle.std.specs.Prelude.{ℕ, suc, refl, List, length, ◌≢◌}
use Rattle.double.specs.laws.Apart.{apart}
use Rattle.text_number.specs.rules.Bytes.{ascii}
use Rattle.text_fields.specs.rules.Lines.{lines}
use Rattle.text_fields.specs.rules.Next.{Found, found, unclear_at, end, next_said}
use Rattle.text_fields.specs.notions.Computed.{computed}
use Rattle.text_fields.specs.notions.Wrong.{line_too_many, last_line_dropped, bare_line_ends, bare_lines_uncounted}

abbrev plain : List ℕ
plain = ascii "1 2 3"

abbrev ended : List ℕ
ended = ascii "1 2 3\n"

abbrev second : List ℕ
second = ascii "\n1 2 3"

abbrev of_lines : List (List ℕ) → ℕ
of_lines ls = length ls

-- by its line
abbrev of_found : Found (List ℕ) → ℕ
of_found (found l line ls) = suc line
of_found (unclear_at line) = 0
of_found end = 0

pub said_varies : next_said 0 (lines second) ≢ next_said 0 (lines plain)
unfolding computed
said_varies = apart of_found refl

pub line_too_many_excluded : line_too_many ended ≢ lines ended
unfolding computed
line_too_many_excluded = apart of_lines refl

pub last_line_dropped_excluded : last_line_dropped plain ≢ lines plain
unfolding computed
last_line_dropped_excluded = apart of_lines refl

pub bare_line_ends_excluded : bare_line_ends 0 (lines second) ≢ next_said 0 (lines second)
unfolding computed
bare_line_ends_excluded = apart of_found refl

pub bare_lines_uncounted_excluded : bare_lines_uncounted 0 (lines second) ≢ next_said 0 (lines second)
unfolding computed
bare_lines_uncounted_excluded = apart of_found refl
