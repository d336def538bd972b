-- The reader of a radio list: its head, a star at an offset, and the whole list.
use Rattle.std.specs.Prelude.{ℕ, cond, List, [], ◌∷◌, length, Result, Ok, Err}
use Rattle.quantity.specs.declared.Refusal.{Refusal}
use Rattle.quantity.specs.rules.Answer.{Answer, answered, refused, number, unless, with}
use Rattle.list.specs.declared.Star.{Star}
use Rattle.list.specs.rules.Record.{in_range}
use Rattle.list_groups.specs.rules.Reading.{AtOffset, read_at}
use Rattle.list_radio.specs.rules.Star.{star_of, read_star}
use Rattle.list_radio.specs.rules.Radio.{mark_refusal, is_moving, read_count, radio_stars}

-- how many stars, and the offset of the first
unfoldable pub open_rule : List ℕ → Answer (AtOffset ℕ)
open_rule s = unless (mark_refusal s) (read_at read_count s 1)

-- a star's first three numbers, its last two, and the offset after them
abbrev pub shown_place : Result (ℕ × ℕ × ℕ × ℕ) Refusal → Answer (AtOffset (List ℕ))
shown_place (Ok (n, a, d, next)) = answered (record { value = n ∷ a ∷ d ∷ []; offset = next })
shown_place (Err e) = refused (number e)

abbrev pub shown_rates : Result (ℕ × ℕ × ℕ) Refusal → Answer (AtOffset (List ℕ))
shown_rates (Ok (u, v, next)) = answered (record { value = u ∷ v ∷ []; offset = next })
shown_rates (Err e) = refused (number e)

-- the star of numbers, read up to an offset
unfoldable pub ranged_at : List ℕ → ℕ → Answer (AtOffset Star)
ranged_at ns next = cond (in_range (star_of ns)) (answered (record { value = star_of ns; offset = next })) (refused 9)

unfoldable pub star_at_rule : List ℕ → ℕ → Answer (AtOffset Star)
star_at_rule s at = unless (mark_refusal s) (read_at (read_star (is_moving s)) s at)

-- how many stars a whole list has
unfoldable pub accept_rule : List ℕ → Answer ℕ
accept_rule s = with length (radio_stars s)
