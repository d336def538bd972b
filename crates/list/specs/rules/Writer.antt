-- A star written as a record: 9, then 8. A record begins where a list has one, so that stars put one after the other from offset 0 on are a list.
use Rattle.std.specs.Prelude.{ℕ, ◌*◌, ◌%◌, Bool, cond, ◌&&◌, List, eqb, ltb}
use Rattle.quantity.specs.rules.Answer.{Answer, answered, refused}
use Rattle.list.specs.rules.Record.{width, in_range, star_bytes}
use Rattle.list.specs.rules.Stars.{most_stars}
use Rattle.list.specs.declared.Star.{Star}

-- a record's start, before the end of the longest list
unfoldable pub is_start : ℕ → Bool
is_start at = ltb at (width * most_stars) && eqb (at % width) 0

unfoldable pub record_text : ℕ → Star → Answer (List ℕ)
record_text at r = cond (in_range r) (cond (is_start at) (answered (star_bytes r)) (refused 8)) (refused 9)
