-- Bytes that move there and back.
use Rattle.std.specs.Prelude.{ℕ, ◌≡◌, List}
use Rattle.quantity.specs.rules.Answer.{Answer, answered}

-- s moves there, and what it becomes moves back to s
pub record ThereAndBack (there back : List ℕ → Answer (List ℕ)) (s : List ℕ) : Type 0 where
  pub moved : List ℕ
  pub goes : there s ≡ answered moved
  pub returns : back moved ≡ answered s
