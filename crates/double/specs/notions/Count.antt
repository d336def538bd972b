-- What is known of a double's digits and of its count.
use Rattle.std.specs.Prelude.{◌≡◌, ℕ, ◌-◌, ◌*◌, ◌^◌, ◌<◌, ◌≤◌}

-- z counts the zeros above t's leading digit among 64, and t moved up by z − 11 has 53 digits
pub record Raised (t z : ℕ) : Type 0 where
  pub eleven : 11 ≤ z
  pub few : z - 11 ≤ 52
  pub least : 2 ^ 52 ≤ t * 2 ^ (z - 11)
  pub most : t * 2 ^ (z - 11) < 2 ^ 53

-- at most 53 digits before its zeros
abbrev pub Short : ℕ → Type 0
Short n = (a : ℕ) × (j : ℕ) × (a < 2 ^ 53) × (n ≡ a * 2 ^ j)
