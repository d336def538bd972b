-- The two moves between a stored list and a radio list, from bytes to bytes: either radio list is read, and byte 3 is written. Refusals: of
-- a radio list the first met; of a stored list 8 for bytes that are no list, then 9 for a record out of range. 8 for a short slice comes
-- last, by the rule of a text put.
use Rattle.std.specs.Prelude.{ℕ, zero, suc, Bool, cond, List, [], ◌∷◌, length}
use Rattle.quantity.specs.rules.Answer.{Answer, answered, refused, with}
use Rattle.list.specs.declared.Star.{Star}
use Rattle.list.specs.rules.Stars.{is_list, stars, list_bytes, all_in_range}
use Rattle.list_groups.specs.rules.Reading.{Got}
use Rattle.list_groups.specs.rules.Several.{spell_all}
use Rattle.list_radio.specs.rules.Star.{star_groups, read_star}
use Rattle.list_radio.specs.rules.Radio.{radio_bytes, radio_stars}

unfoldable pub to_list : List ℕ → Answer (List ℕ)
to_list s = with list_bytes (radio_stars s)

unfoldable pub to_radio : List ℕ → Answer (List ℕ)
to_radio s = cond (is_list s) (cond (all_in_range (stars s)) (answered (radio_bytes (stars s))) (refused 9)) (refused 8)

-- ---- the passes of the moves

-- the stars of bytes, with yearly changes or without, up to the first that is refused, so many at most
abbrev leading : Answer (Got Star) → (List ℕ → List Star) → List Star
leading (answered g) more = g.value ∷ more g.rest
leading (refused k) more = []

unfoldable pub stars_upto : Bool → ℕ → List ℕ → List Star
stars_upto moving zero bs = []
stars_upto moving (suc n) bs = leading (read_star moving bs) (stars_upto moving n)

-- how many bytes the stars take, or 9
unfoldable pub size_of : List Star → Answer ℕ
size_of rs = cond (all_in_range rs) (answered (length (spell_all star_groups rs))) (refused 9)
