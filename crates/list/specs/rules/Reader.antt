-- The reader: the caller's bytes together with an offset in them. What it shows, on paper: it passes over empty places.
use Rattle.std.specs.Prelude.{ℕ, suc, ◌+◌, ◌*◌, ◌/◌, ◌%◌, Bool, cond, ◌&&◌, List, [], ◌∷◌, eqb, leb, ltb, length, drop, get_or, Option, Some, None, Result, Ok, Err}
use Rattle.quantity.specs.declared.Refusal.{Refusal}
use Rattle.quantity.specs.rules.Answer.{Answer, answered, refused, number}
use Rattle.list.specs.rules.Record.{width}
use Rattle.list.specs.rules.Stars.{is_list, stars, is_kept, nought}
use Rattle.list.specs.declared.Star.{Star}

-- a star and the offset after it, or none left
pub data Item : Type 0 where
  item : Star → ℕ → Item
  none : Item

abbrev pub shown_stored : Result (Option (Star × ℕ)) Refusal → Answer Item
shown_stored (Ok (Some (r, next))) = answered (item r next)
shown_stored (Ok None) = answered none
shown_stored (Err e) = refused (number e)

-- a record's start, or the end
unfoldable pub is_offset : List ℕ → ℕ → Bool
is_offset s at = leb at (length s) && eqb (at % width) 0

-- how many empty places stand in front
unfoldable pub empty_before : List Star → ℕ
empty_before [] = 0
empty_before (r ∷ rs) = cond (is_kept r) 0 (suc (empty_before rs))

-- star i and the offset after it; past the last one none
abbrev pub item_at : List Star → ℕ → Item
item_at rs i = cond (ltb i (length rs)) (item (get_or rs i nought) ((i + 1) * width)) none

-- the first from index i on that is kept, in range or not
abbrev pub item_from : List Star → ℕ → Item
item_from rs i = item_at rs (i + empty_before (drop i rs))

unfoldable pub read_rule : List ℕ → ℕ → Answer Item
read_rule s at = cond (is_list s && is_offset s at) (answered (item_from (stars s) (at / width))) (refused 8)
