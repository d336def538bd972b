-- Remainders worked out by the rule.
use Rattle.std.specs.Prelude.{refl, List, [], ◌∷◌, ℕ, Float}
use Rattle.double.specs.rules.Operations.{bits}
use Rattle.double.specs.rules.Table.{Row, ◌is◌, Agrees}
use Rattle.double.specs.notions.Computed.{computed}
use Rattle.remainder.specs.rules.Remainder.{remainder_of}

-- the patterns of two doubles, and that of the remainder
infix 40 ◌by◌leaves◌
abbrev ◌by◌leaves◌ : ℕ → ℕ → ℕ → Row Float
b by c leaves r = remainder_of (bits b) (bits c) is bits r

abbrev rows : List (Row Float)
rows =
    -- 540, −90, −360 and −0 by 360
    (0x4080e00000000000 by 0x4076800000000000 leaves 0x4066800000000000)
    ∷ (0xc056800000000000 by 0x4076800000000000 leaves 0xc056800000000000)
    ∷ (0xc076800000000000 by 0x4076800000000000 leaves 0x8000000000000000)
    ∷ (0x8000000000000000 by 0x4076800000000000 leaves 0x8000000000000000)
    -- 64 and the largest double by 2·PI, by 360 and, with a minus sign, by 1
    ∷ (0x4050000000000000 by 0x401921fb54442d18 leaves 0x3ff2b0bad558f440)
    ∷ (0x7fefffffffffffff by 0x401921fb54442d18 leaves 0x3fe294b5eb559b40)
    ∷ (0x7fefffffffffffff by 0x4076800000000000 leaves 0x4060000000000000)
    ∷ (0xffefffffffffffff by 0x3ff0000000000000 leaves 0x8000000000000000)
    -- 7.25 by 1 and by −1
    ∷ (0x401d000000000000 by 0x3ff0000000000000 leaves 0x3fd0000000000000)
    ∷ (0x401d000000000000 by 0xbff0000000000000 leaves 0x3fd0000000000000)
    -- the least double, and the largest subnormal with a minus sign; 2^−1022 and the largest double by 3·2^−1074
    ∷ (0x0000000000000001 by 0x4076800000000000 leaves 0x0000000000000001)
    ∷ (0x800fffffffffffff by 0x401921fb54442d18 leaves 0x800fffffffffffff)
    ∷ (0x0010000000000000 by 0x0000000000000003 leaves 0x0000000000000001)
    ∷ (0x7fefffffffffffff by 0x0000000000000003 leaves 0x0000000000000002)
    -- 5 by the infinity; an infinity, and 1 by zero
    ∷ (0x4014000000000000 by 0x7ff0000000000000 leaves 0x4014000000000000)
    ∷ (0xfff0000000000000 by 0x4076800000000000 leaves 0x7ff8000000000000)
    ∷ (0x3ff0000000000000 by 0x8000000000000000 leaves 0x7ff8000000000000)
    ∷ []

pub remainder_cases : Agrees rows
unfolding computed
remainder_cases = refl
