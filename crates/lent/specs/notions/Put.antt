-- A text that was put: there is one, it had room, and it stands whole in the slice.
use Rattle.std.specs.Prelude.{ℕ, ◌+◌, ◌≤◌, ◌≡◌, List, ◌++◌, length, take, drop}
use Rattle.quantity.specs.rules.Answer.{Answer, answered}

pub record Stands (text : Answer (List ℕ)) (old : List ℕ) (at : ℕ) (new : List ℕ) (next : ℕ) : Type 0 where
  pub t : List ℕ
  pub is : text ≡ answered t
  pub room : at + length t ≤ length old
  pub after : next ≡ at + length t
  pub slice : new ≡ take at old ++ t ++ drop (at + length t) old
