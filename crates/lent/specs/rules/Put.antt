-- A text put into a lent slice from an offset on, whole or not at all. Its own refusal comes first, then 8 where it has no room; a refused call
-- leaves the slice.
use Rattle.std.specs.Prelude.{ℕ, ◌+◌, ◌≡◌, cond, List, ◌++◌, leb, length, take, drop, Result}
use Rattle.quantity.specs.declared.Refusal.{Refusal}
use Rattle.quantity.specs.rules.Answer.{Answer, answered, refused, shown, with, then}

unfoldable pub room_for : List ℕ → ℕ → Answer (List ℕ) → Answer (List ℕ)
unfolding then
room_for old at text = then text (λ (t : List ℕ). cond (leb (at + length t) (length old)) (answered t) (refused 8))

abbrev pub laid : List ℕ → ℕ → Answer (List ℕ) → List ℕ
laid old at (answered t) = take at old ++ t ++ drop (at + length t) old
laid old at (refused n) = old

-- what a function that puts the text leaves, and what it answers: the offset after the text
pub record Put (text : Answer (List ℕ)) (old : List ℕ) (at : ℕ) (new : List ℕ) (r : Result ℕ Refusal) : Type 0 where
  pub answer : shown r ≡ with (λ (t : List ℕ). at + length t) (room_for old at text)
  pub slice : new ≡ laid old at (room_for old at text)
