-- Roots worked out by the rule.
use Rattle.std.specs.Prelude.{ℕ, List, [], ◌∷◌, refl, Float}
use Rattle.std.specs.Float.Ieee.{lt, of_bits, size}
use Rattle.double.specs.rules.Operations.{bits}
use Rattle.double.specs.rules.Sign.{is_finite}
use Rattle.double.specs.rules.Table.{Row, ◌is◌, Agrees}
use Rattle.quantity.specs.rules.Answer.{Answer, answered, refused}
use Rattle.double.specs.rules.Count.{count}
use Rattle.root.specs.rules.Whole.{whole_root}
use Rattle.root.specs.rules.Root.{root_pattern, root_of, root_rule}

-- the pattern of a double, and that of its root, or its refusal
infix 40 ◌has_root◌
abbrev ◌has_root◌ : ℕ → ℕ → Row (Answer Float)
b has_root r = root_rule (bits b) is answered (bits r)

infix 40 ◌refused_by◌
abbrev ◌refused_by◌ : ℕ → ℕ → Row (Answer Float)
b refused_by n = root_rule (bits b) is refused n

abbrev rows : List (Row (Answer Float))
rows =
    -- 2, 4, 0.5, and the double under 1
    (0x4000000000000000 has_root 0x3ff6a09e667f3bcd)
    ∷ (0x4010000000000000 has_root 0x4000000000000000)
    ∷ (0x3fe0000000000000 has_root 0x3fe6a09e667f3bcd)
    ∷ (0x3fefffffffffffff has_root 0x3fefffffffffffff)
    -- 2^−1074, whose root is 2^−537; the largest subnormal, the smallest normal double and the largest double
    ∷ (0x0000000000000001 has_root 0x1e60000000000000)
    ∷ (0x000fffffffffffff has_root 0x1fffffffffffffff)
    ∷ (0x0010000000000000 has_root 0x2000000000000000)
    ∷ (0x7fefffffffffffff has_root 0x5fefffffffffffff)
    -- +0 and −0
    ∷ (0x0000000000000000 has_root 0x0000000000000000)
    ∷ (0x8000000000000000 has_root 0x8000000000000000)
    -- −1, −2^−1074, the infinities and a NaN
    ∷ (0xbff0000000000000 refused_by 5)
    ∷ (0x8000000000000001 refused_by 5)
    ∷ (0x7ff0000000000000 refused_by 1)
    ∷ (0xfff0000000000000 refused_by 1)
    ∷ (0x7ff8000000000000 refused_by 1)
    ∷ []

pub root_cases : Agrees rows
unfolding root_rule root_of root_pattern whole_root count is_finite lt of_bits size
root_cases = refl
