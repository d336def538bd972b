-- A list of records of 12 bytes moved up to 20, and back down, from bytes to bytes. Refusals: up, 8 for bytes that are no such list, then 9
-- for a record out of range; down, 8, 9, then 17 where a yearly change is not zero. 8 for a short slice comes last, by the rule of a text put.
use Rattle.std.specs.Prelude.{ℕ, cond, List, get_or}
use Rattle.quantity.specs.rules.Answer.{Answer, answered, refused}
use Rattle.list.specs.rules.Record.{star_bytes}
use Rattle.list.specs.rules.Stars.{is_list, stars, nought, nth, records_bytes, list_bytes, all_are, all_in_range}
use Rattle.list_widths.specs.rules.Narrow.{narrow_bytes, is_still, is_narrow, narrow_stars}

unfoldable pub to_wide : List ℕ → Answer (List ℕ)
to_wide s = cond (is_narrow s) (cond (all_in_range (narrow_stars s)) (answered (list_bytes (narrow_stars s))) (refused 9)) (refused 8)

-- 9 anywhere in the list, and only then 17
unfoldable pub to_narrow : List ℕ → Answer (List ℕ)
to_narrow s =
    cond (is_list s)
    (cond (all_in_range (stars s)) (cond (all_are is_still (stars s)) (answered (records_bytes narrow_bytes (stars s))) (refused 17)) (refused 9))
    (refused 8)

-- ---- the passes of the moves: the record of star i in the other width

abbrev pub wide_record : List ℕ → ℕ → List ℕ
wide_record s i = star_bytes (get_or (narrow_stars s) i nought)

abbrev pub narrow_record : List ℕ → ℕ → List ℕ
narrow_record s i = narrow_bytes (nth s i)
