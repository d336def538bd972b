-- What it is to be the nearest whole number of a double.
use Rattle.std.specs.Prelude.{ℕ, ◌+◌, ◌*◌, ◌<◌, ◌≤◌, Float}
use Rattle.std.specs.Float.Ieee.Positive.{num, den}
use Rattle.double.specs.rules.Order.{Finite, Plus}

-- y, whose size is the fraction num / den, is finite and not below zero, and n − 1/2 ≤ y < n + 1/2
pub record IsNearest (n : ℕ) (y : Float) : Type 0 where
  pub finite : Finite y
  pub plus : Plus y
  pub under : 2 * (n * den y) ≤ 2 * num y + den y
  pub over : 2 * num y < 2 * (n * den y) + den y
