-- Bounds by whole numbers, and the sines of angles up to 2048.0 in size.
use Rattle.std.specs.Prelude.{ℕ, T, Float}
use Rattle.std.specs.Float.{binary64}
use Rattle.std.specs.Float.Ieee.{neg, le, of_bits, round}
use Rattle.double.specs.rules.Operations.{one}
use Rattle.double.specs.rules.Sign.{size}
use Rattle.double.specs.rules.Order.{◌≼◌, Between}
use Rattle.double.specs.rules.Table.{over}
use Rattle.double.specs.notions.Range.{Expr, value, range, inside}
use Rattle.double.specs.laws.Order.{le_trans}
use Rattle.double.specs.laws.Between.{between→size}
use Rattle.double.specs.laws.Interval.{bounded}
use Rattle.quantity.specs.declared.Rad.{Rad}
use Rattle.elementary.specs.rules.Sine.{sine_of, cosine_of, farthest_alone}
use Rattle.elementary.specs.laws.Sine.{sine_between, cosine_between}
use Rattle.domain_accepted.specs.notions.Within.{Within}

-- an expression's value lies within n, as its range does
pub within : (n : ℕ) (e : Expr) → T (inside (neg (over n 1)) (over n 1) (range binary64 e)) → Within n (value binary64 e)
within n e t = bounded binary64 (neg (over n 1)) (over n 1) e t

-- far below the size up to which a fold is true
pub near_far : (x : Float) → Within 2048 x → size x ≼ farthest_alone
near_far x i = le_trans (size x) (over 2048 1) farthest_alone (between→size (over 2048 1) x i) (unfold le of_bits round in tt)

pub near_sine : (x : Rad) → Within 2048 x.0 → Between (neg one) one (sine_of x)
near_sine x i = sine_between x (near_far x.0 i)

pub near_cosine : (x : Rad) → Within 2048 x.0 → Between (neg one) one (cosine_of x)
near_cosine x i = cosine_between x (near_far x.0 i)
