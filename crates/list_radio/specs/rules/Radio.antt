-- A list over the radio link: byte 3, the star count, then each star; a list that begins with byte 2 is read too, and never written.
-- Refusals, the first met: 13 of an empty list, 11 of another first byte, 12 or 13 of the count, 8 of a count above what a list may have;
-- of each star 12, 13 or 9; then 13 for bytes over.
use Rattle.std.specs.Prelude.{ℕ, Bool, true, false, cond, List, [], ◌∷◌, ◌++◌, eqb, leb, length, drop, get_or}
use Rattle.quantity.specs.rules.Answer.{Answer, answered, refused, unless, then}
use Rattle.list.specs.declared.Star.{Star}
use Rattle.list.specs.rules.Stars.{most_stars}
use Rattle.list_groups.specs.rules.Groups.{groups}
use Rattle.list_groups.specs.rules.Reading.{Got, read_number}
use Rattle.list_groups.specs.rules.Several.{spell_all, read_all}
use Rattle.list_radio.specs.rules.Star.{star_groups, read_star}

-- the first byte of stars with yearly changes, and of stars without
abbrev pub mark : Bool → ℕ
mark true = 3
mark false = 2

-- ---- a list written

unfoldable pub head_bytes : ℕ → List ℕ
head_bytes n = mark true ∷ groups n

unfoldable pub radio_bytes : List Star → List ℕ
radio_bytes rs = head_bytes (length rs) ++ spell_all star_groups rs

-- ---- a list read

-- 0 where the first byte stands
unfoldable pub mark_refusal : List ℕ → ℕ
mark_refusal [] = 13
mark_refusal (b ∷ bs) = cond (eqb b (mark true)) 0 (cond (eqb b (mark false)) 0 11)

-- whether its stars have yearly changes
unfoldable pub is_moving : List ℕ → Bool
is_moving s = eqb (get_or s 0 0) (mark true)

abbrev pub few : Got ℕ → Answer (Got ℕ)
few g = cond (leb g.value most_stars) (answered g) (refused 8)

-- how many stars, from the byte after the first on
unfoldable pub read_count : List ℕ → Answer (Got ℕ)
unfolding then
read_count bs = then (read_number bs) few

abbrev pub nothing_over : Got (List Star) → Answer (List Star)
nothing_over g = cond (eqb (length g.rest) 0) (answered g.value) (refused 13)

-- so many stars, and nothing after them
unfoldable pub stars_of : Bool → ℕ → List ℕ → Answer (List Star)
unfolding then
stars_of moving n bs = then (read_all (read_star moving) n bs) nothing_over

unfoldable pub radio_stars : List ℕ → Answer (List Star)
unfolding then
radio_stars s = unless (mark_refusal s) (then (read_count (drop 1 s)) (λ (g : Got ℕ). stars_of (is_moving s) g.value g.rest))
