-- A lent slice while a loop writes texts into it, one a turn.
use Rattle.std.specs.Prelude.{ℕ, ◌≤◌, List}
use Rattle.lent.specs.rules.Writing.{Wrote}
use Rattle.lent.specs.rules.Texts.{texts}

-- after i passes of n: the texts f 0, f 1, .. up to i are written
pub record Walked (old : List ℕ) (at n : ℕ) (f : ℕ → List ℕ) (new : List ℕ) (offset i : ℕ) : Type 0 where
  pub passes : i ≤ n
  pub wrote : Wrote old at (texts i f) new offset
