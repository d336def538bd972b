-- A list read as a caller reads it: opened, then star by star, each from the offset that was answered with the one before.
use Rattle.std.specs.Prelude.{ℕ, zero, suc, cond, List, [], ◌∷◌, leb, length}
use Rattle.quantity.specs.rules.Answer.{Answer, answered, refused, with, then}
use Rattle.list.specs.declared.Star.{Star}
use Rattle.list_groups.specs.rules.Reading.{AtOffset}
use Rattle.list_radio.specs.rules.Reader.{star_at_rule}

abbrev pub after : Star → AtOffset (List Star) → AtOffset (List Star)
after r x = record { value = r ∷ x.value; offset = x.offset }

-- so many stars from an offset on
unfoldable pub star_by_star : List ℕ → ℕ → ℕ → Answer (AtOffset (List Star))
unfolding then
star_by_star s zero at = answered (record { value = []; offset = at })
star_by_star s (suc n) at = then (star_at_rule s at) (λ (x : AtOffset Star). with (after x.value) (star_by_star s n x.offset))

-- and the end of the bytes
abbrev pub at_end : List ℕ → AtOffset (List Star) → Answer (List Star)
at_end s x = cond (leb (length s) x.offset) (answered x.value) (refused 13)
