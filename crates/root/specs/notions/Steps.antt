-- What is known between the steps of the root.
use Rattle.std.specs.Prelude.{◌≡◌, ℕ, ◌+◌, ◌-◌, ◌*◌, ◌/◌, ◌^◌, ◌<◌, ◌≤◌, Bool, true, false, cond, nat_lt, to_bits, Float}
use Rattle.std.specs.Float.{binary64}
use Rattle.double.specs.rules.Sign.{bears_minus}
use Rattle.double.specs.rules.Count.{IsAboveZero}
use Rattle.root.specs.rules.Whole.{IsDigit}

-- what a digit t takes, in whole p: a part of one counts whole
unfoldable pub taken : ℕ → ℕ → ℕ → ℕ
taken twice p t = twice * t + (t * t + (p - 1)) / p

-- what a test of t tells: it is the digit, or where it does not take too much, one more does not either
pub record Tried (left twice p t : ℕ) (r : Bool) : Type 0 where
  pub yes : r ≡ true → IsDigit left twice p t
  pub no : r ≡ false → twice * t * p + t * t ≤ left * p → twice * (t + 1) * p + (t + 1) * (t + 1) ≤ left * p

-- how far t is from the digit: what falls when t is mended by one
abbrev pub away : ℕ → ℕ → ℕ → ℕ → ℕ
away left twice p t = cond (nat_lt (left * p) (twice * t * p + t * t)) (2 ^ 30 + t) (2 ^ 30 - t)

pub record Normal (w d e : ℕ) : Type 0 where
  pub is : w ≡ d * 2 ^ 54 * 2 ^ (2 * e)
  pub least : 2 ^ 52 ≤ d
  pub most : d < 2 ^ 54 - 1
  pub room : e < 2045

-- a finite double above zero that has its 53 digits
pub record IsNormal (x : Float) : Type 0 where
  pub above : IsAboveZero x
  pub plus : bears_minus x ≡ false
  pub least : 2 ^ 52 ≤ to_bits binary64 x

-- and one that has fewer
pub record IsSubnormal (x : Float) : Type 0 where
  pub above : IsAboveZero x
  pub most : to_bits binary64 x < 2 ^ 52
