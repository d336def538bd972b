-- The whole part of a whole number's square root.
use Rattle.std.specs.Prelude.{ℕ, zero, suc, ◌+◌, ◌*◌, ◌/◌, ◌<◌, ◌≤◌, cond, nat_le}

pub record IsWholeRoot (n s : ℕ) : Type 0 where
  pub under : s * s ≤ n
  pub over : n < (s + 1) * (s + 1)

-- one binary digit more: s is the whole part for n / 4
abbrev pub longer : ℕ → ℕ → ℕ
longer n s = cond (nat_le ((2 * s + 1) * (2 * s + 1)) n) (2 * s + 1) (2 * s)

-- of an n below 4^k: k binary digits, the highest first
unfoldable pub whole_root : ℕ → ℕ → ℕ
whole_root zero n = 0
whole_root (suc k) n = longer n (whole_root k (n / 4))

-- A digit t of many bits, as code takes it: a root y so far becomes y·p + t, where twice is 2·y and left·p what y leaves.
-- t takes twice·t·p + t² of that, and one more would take too much.
pub record IsDigit (left twice p t : ℕ) : Type 0 where
  pub under : twice * t * p + t * t ≤ left * p
  pub over : left * p < twice * (t + 1) * p + (t + 1) * (t + 1)
