-- The root of a double.
use Rattle.std.specs.Prelude.{ℕ, ◌+◌, ◌-◌, ◌*◌, ◌/◌, ◌^◌, cond, Float}
use Rattle.std.specs.Float.Ieee.{size, lt}
use Rattle.double.specs.rules.Operations.{bits, zero}
use Rattle.double.specs.rules.Sign.{is_finite}
use Rattle.quantity.specs.rules.Answer.{Answer, answered, unless}
use Rattle.root.specs.rules.Nearest.{twice_root_squared}
use Rattle.root.specs.rules.Whole.{whole_root}

-- The bit pattern of the root, by the square w of twice the root. Without its last 2·places binary digits w has 107 or 108 of
-- them and its root 54, of which the last one rounds. The root counts the 53 that are left, times 2^places: in a pattern their
-- leading one goes into the exponent's field.
unfoldable pub root_pattern : ℕ → ℕ
root_pattern w =
    let halvings = (size w - 107) / 2 in
    halvings * 2 ^ 52 + (whole_root 54 (w / 2 ^ (2 * halvings)) + 1) / 2

-- of a finite double above zero; a zero is its own root, sign and all
unfoldable pub root_of : Float → Float
root_of x = cond (lt zero x) (cond (is_finite x) (bits (root_pattern (twice_root_squared x))) x) x

-- 5 below zero, where −0 is not
abbrev pub root_refusal : Float → ℕ
root_refusal x = cond (is_finite x) (cond (lt x zero) 5 0) 1

unfoldable pub root_rule : Float → Answer Float
root_rule x = unless (root_refusal x) (answered (root_of x))
