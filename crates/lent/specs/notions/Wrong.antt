-- Wrong variants of a text put into a slice.
use Rattle.std.specs.Prelude.{ℕ, ◌+◌, cond, List, [], ◌∷◌, ◌++◌, leb, length, take, drop}
use Rattle.quantity.specs.rules.Answer.{Answer, answered, refused, then}

-- the room of the whole slice, whatever the offset
abbrev pub room_from_the_start : List ℕ → ℕ → Answer (List ℕ) → Answer (List ℕ)
room_from_the_start old at text = then text (λ (t : List ℕ). cond (leb (length t) (length old)) (answered t) (refused 8))

-- the rest of the slice cleared
abbrev cleared : List ℕ → List ℕ
cleared [] = []
cleared (b ∷ bs) = 0 ∷ cleared bs

abbrev pub rest_cleared : List ℕ → ℕ → Answer (List ℕ) → List ℕ
rest_cleared old at (answered t) = take at old ++ t ++ cleared (drop (at + length t) old)
rest_cleared old at (refused n) = old

-- a slice that was touched before the refusal
abbrev pub refused_slice_cleared : List ℕ → ℕ → Answer (List ℕ) → List ℕ
refused_slice_cleared old at (answered t) = take at old ++ t ++ drop (at + length t) old
refused_slice_cleared old at (refused n) = cleared old
