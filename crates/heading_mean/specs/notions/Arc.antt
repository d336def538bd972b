-- How far apart two headings lie on the circle, exactly, in whole multiples of the smallest double.
use Rattle.std.specs.Prelude.{ℕ, ◌+◌, ◌*◌, ◌^◌, ◌≤◌, ◌≡◌, cond, ◌⊎◌, Float}
use Rattle.std.specs.Float.Ieee.Positive.{den}
use Rattle.double.specs.rules.Sign.{bears_minus}
use Rattle.double.specs.rules.Order.{Finite}
use Rattle.double.specs.rules.Count.{count}
use Rattle.double.specs.notions.Fraction.{plus_part, minus_part}
use Rattle.quantity.specs.declared.Deg.{Deg}

-- what 1.0 counts
unfoldable pub unit : ℕ
unit = 2 ^ 1074

-- a double's count above zero, and below
abbrev pub over : Float → ℕ
over x = cond (bears_minus x) 0 (count x)

abbrev pub under : Float → ℕ
under x = cond (bears_minus x) (count x) 0

-- x counts p − n
pub record Counted (x : Float) (p n : ℕ) : Type 0 where
  pub finite : Finite x
  pub plus : plus_part x * unit ≡ p * den x
  pub minus : minus_part x * unit ≡ n * den x

-- p − n, what z counts, against P − N, what it is rounded from: within 2^−21
pub record Near (p n P N : ℕ) : Type 0 where
  pub from : 2097152 * (P + n) ≤ 2097152 * (p + N) + unit
  pub to : 2097152 * (p + N) ≤ 2097152 * (P + n) + unit

-- a and b are e apart at most on a circle of t
abbrev pub Around : ℕ → ℕ → ℕ → ℕ → Type 0
Around t e a b = ((a ≤ b + e) × (b ≤ a + e)) ⊎ ((t + a ≤ b + e) ⊎ (t + b ≤ a + e))

-- two headings lie within k milliarcseconds of one another, on either side of north
abbrev pub Within : ℕ → Deg → Deg → Type 0
Within k x y = Around (1296000000 * unit) (k * unit) (3600000 * count x.0) (3600000 * count y.0)
