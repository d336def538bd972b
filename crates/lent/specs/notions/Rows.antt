-- The front of a lent slice while a loop writes it, one store a turn.
use Rattle.std.specs.Prelude.{◌≡◌, List, ◌++◌, ℕ, ◌≤◌, length, take, drop}

-- after i stores of n: `cur` is the first i of `new`, and `old` from there on
pub record Row {A : Type 0} (new old cur : List A) (n i : ℕ) : Type 0 where
  pub room : n ≤ length old
  pub long : length cur ≡ length old
  pub is : cur ≡ take i new ++ drop i old
