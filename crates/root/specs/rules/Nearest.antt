-- IEEE 754's squareRoot to nearest, said over whole numbers.
use Rattle.std.specs.Prelude.{ℕ, ◌+◌, ◌*◌, ◌^◌, ◌<◌, Float}
use Rattle.double.specs.rules.Count.{IsFromZero, count}

-- the square of twice x's root, where the root is counted as doubles are
abbrev pub twice_root_squared : Float → ℕ
twice_root_squared x = 4 * 2 ^ 1074 * count x

-- r is the double nearest to the root of x, which is above zero: for each other double y the root lies on r's side of the
-- midpoint of the two. Twice that midpoint counts count r + count y, so squares are compared. Both are strict: no tie is left.
pub record IsRoot (x r : Float) : Type 0 where
  pub double : IsFromZero r
  pub above : (y : Float) → IsFromZero y → count r < count y → twice_root_squared x < (count r + count y) * (count r + count y)
  pub below : (y : Float) → IsFromZero y → count y < count r → (count r + count y) * (count r + count y) < twice_root_squared x
