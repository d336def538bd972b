-- Wrong variants of the root.
use Rattle.std.specs.Prelude.{ℕ, ◌+◌, ◌-◌, ◌*◌, ◌/◌, ◌%◌, ◌^◌, ◌<◌, ◌≤◌, cond, Float}
use Rattle.std.specs.Float.Ieee.{lt, size}
use Rattle.double.specs.rules.Operations.{bits, zero}
use Rattle.double.specs.rules.Sign.{is_finite}
use Rattle.double.specs.notions.Greatest.{greatest}
use Rattle.double.specs.rules.Pattern.{pattern_of}
use Rattle.quantity.specs.rules.Answer.{Answer, answered, unless, with}
use Rattle.double.specs.rules.Count.{IsFromZero, count}
use Rattle.root.specs.rules.Nearest.{twice_root_squared}
use Rattle.root.specs.rules.Whole.{whole_root}
use Rattle.root.specs.rules.Root.{root_pattern, root_of, root_refusal, root_rule}

-- ---- refusals

-- with another refusal
abbrev refusing : (Float → ℕ) → Float → Answer Float
refusing refusal x = unless (refusal x) (answered (root_of x))

abbrev pub infinity_let_in : Float → Answer Float
infinity_let_in = refusing (λ (x : Float). cond (is_finite x) (cond (lt x zero) 5 0) 0)

abbrev pub largest_refused : Float → Answer Float
largest_refused = refusing (λ (x : Float). cond (lt x greatest) (cond (lt x zero) 5 0) 1)

-- −2^−1074, the first double below zero
abbrev pub least : Float
least = bits 0x8000000000000001

abbrev pub least_below_zero_let_in : Float → Answer Float
least_below_zero_let_in = refusing (λ (x : Float). cond (is_finite x) (cond (lt x least) 5 0) 1)

-- 1 below zero
abbrev pub wrong_number : Float → Answer Float
wrong_number = refusing (λ (x : Float). cond (is_finite x) (cond (lt x zero) 1 0) 1)

-- ---- what is not above zero

-- +0 for −0
abbrev pub zero_loses_sign : Float → Answer Float
zero_loses_sign x = unless (root_refusal x) (answered (cond (lt zero x) (root_of x) zero))

abbrev pub bits_lose_the_sign : Float → Answer ℕ
bits_lose_the_sign x = with (λ (r : Float). pattern_of r % 2 ^ 63) (root_rule x)

-- ---- the pattern of what is above zero

-- with another pattern, by the square of twice the root
abbrev packed : (ℕ → ℕ) → Float → Answer Float
packed pattern x = unless (root_refusal x) (answered (cond (lt zero x) (bits (pattern (twice_root_squared x))) x))

abbrev halvings : ℕ → ℕ
halvings w = (size w - 107) / 2

-- with other digits of what is left of w without its last 2·places
abbrev counted : (ℕ → ℕ) → Float → Answer Float
counted digits = packed (λ (w : ℕ). halvings w * 2 ^ 52 + (digits (w / 2 ^ (2 * halvings w)) + 1) / 2)

abbrev pub cut_not_rounded : Float → Answer Float
cut_not_rounded = packed (λ (w : ℕ). halvings w * 2 ^ 52 + whole_root 54 (w / 2 ^ (2 * halvings w)) / 2)

-- of an odd exponent
abbrev pub odd_two_lost : Float → Answer Float
odd_two_lost = packed (λ (w : ℕ). halvings w * 2 ^ 52 + (whole_root 54 (w / 2 ^ (size w - 107)) + 1) / 2)

-- the exponent one less than it is, in a subnormal: the square is halved
abbrev pub subnormal_exponent : Float → Answer Float
subnormal_exponent x = packed (λ (w : ℕ). root_pattern (cond (lt x (bits 0x0010000000000000)) (w / 2) w)) x

-- ---- the digits

-- one of the 54 is not taken
abbrev pub one_digit_fewer : Float → Answer Float
one_digit_fewer = counted (λ (n : ℕ). 2 * whole_root 53 (n / 4))

-- what is left may be one more than twice the root
pub record RestTooLarge (left twice p t : ℕ) : Type 0 where
  pub under : twice * t * p + t * t ≤ left * p
  pub over : left * p ≤ twice * (t + 1) * p + (t + 1) * (t + 1)

-- ---- the nearest double

-- twice the square
pub record MidpointWrong (x r : Float) : Type 0 where
  pub double : IsFromZero r
  pub above : (y : Float) → IsFromZero y → count r < count y → 2 * twice_root_squared x < (count r + count y) * (count r + count y)
  pub below : (y : Float) → IsFromZero y → count y < count r → (count r + count y) * (count r + count y) < 2 * twice_root_squared x
