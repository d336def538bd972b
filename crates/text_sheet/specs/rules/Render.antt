-- The sheet written into a lent slice. One that is shorter than the longest sheet is refused by 8 and stays as it was.
use Rattle.std.specs.Prelude.{ℕ, ◌+◌, ◌*◌, Bool, cond, List, ◌++◌, ltb, length, drop, Result, Ok, Err}
use Rattle.quantity.specs.declared.Refusal.{Refusal}
use Rattle.quantity.specs.rules.Answer.{Answer, answered, refused}
use Rattle.list.specs.rules.Stars.{most_stars}
use Rattle.text_sheet.specs.rules.Sheet.{sheet_of}

-- how many bytes were written: 0 of a refusal
abbrev pub bytes_of : Result ℕ Refusal → ℕ
bytes_of (Ok n) = n
bytes_of (Err e) = 0

-- sixty-four bytes a star, and sixty more
abbrev pub room : ℕ
room = 60 + 64 * most_stars

abbrev pub render_rule : Bool → List ℕ → List ℕ → Answer ℕ
render_rule rates s old = cond (ltb (length old) room) (refused 8) (answered (length (sheet_of rates s)))

abbrev pub rendered : Bool → List ℕ → List ℕ → List ℕ
rendered rates s old = cond (ltb (length old) room) old (sheet_of rates s ++ drop (length (sheet_of rates s)) old)
