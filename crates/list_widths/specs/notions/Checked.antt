-- A pass over stars that ends at the first that is not so: i of n are seen to be.
use Rattle.std.specs.Prelude.{ℕ, ◌≤◌, ◌<◌, ◌≡◌, Bool, true, List, length, get_or}
use Rattle.list.specs.rules.Stars.{nought}
use Rattle.list.specs.declared.Star.{Star}

pub record Checked (is : Star → Bool) (rs : List Star) (n i : ℕ) : Type 0 where
  pub many : n ≡ length rs
  pub passes : i ≤ n
  pub are : (j : ℕ) → j < i → is (get_or rs j nought) ≡ true
