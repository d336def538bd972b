-- Figures of a night, and how far their products go.
use Rattle.std.specs.Prelude.{ℕ, ◌-◌, ◌*◌, ◌≤◌}

pub record Night (n s q : ℕ) : Type 0 where
  pub two : 2 ≤ n
  pub few : n ≤ 3000
  pub sum : s ≤ 3000000000
  pub squares : q ≤ 3000000000000000
  pub times : n * q ≤ 9000000000000000000
  pub square : s * s ≤ 9000000000000000000
  pub pairs : n * n ≤ 9000000
  pub divisor : n * (n - 1) ≤ 9000000
  pub divisors : n * n * (n - 1) ≤ 27000000000
