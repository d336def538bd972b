-- `remainder::rest_of` meets its contract: a pass moves places from what is left of them to the digits.
use mathlib.Core.Path.{◌≡◌, refl, ap, ◌∙◌}
use Prim.Native.Nat.{ℕ, ◌+◌, ◌-◌, ◌*◌, ◌%◌, ◌^◌, ◌≤◌, ◌<◌}
use native.Mathlib.Nat.{lt_of_lt_of_le, lt_trans, mod-lt, mod-eq_of_lt}
use native.Mathlib.Omega.{arith}
use lib.Pow.{pow_mono, shl_lt}
use Rattle.remainder.specs.laws.Whole.{rest_in_parts}
use Rattle.remainder.proofs.rest_of.Goals as goal

-- 53 digits moved up by eleven places are 64
unwrapped : (r j : ℕ) → r < 2 ^ 53 → j ≤ 11 → r * 2 ^ j % 2 ^ 64 ≡ r * 2 ^ j
unwrapped r j h l = mod-eq_of_lt (lt_of_lt_of_le (shl_lt 53 j h) (pow_mono {i = 53 + j} {j = 64} (omega arith)))

pub loop-left-init : goal.loop-left-init
loop-left-init c = (c.requires.0, refl)

pub nonzero_rem-rest : goal.nonzero_rem-rest
nonzero_rem-rest c = omega arith

pub loop-left-smaller : goal.loop-left-smaller
loop-left-smaller c = omega arith

pub loop-left-preserved : goal.loop-left-preserved
loop-left-preserved c =
    let n = c.args.n in
    let left = c.loop-left.left in (
      lt_trans (mod-lt _ c.requires.1) c.requires.2,
      ap (λ (x : ℕ). x % n * 2 ^ (left - 11) % n) (unwrapped _ 11 c.loop-left.invariant.0 (omega arith))
          ∙ rest_in_parts _ 11 left n (omega arith)
          ∙ c.loop-left.invariant.1,
    )

pub overflow_shl-result : goal.overflow_shl-result
overflow_shl-result c = omega arith

pub nonzero_rem-result : goal.nonzero_rem-result
nonzero_rem-result c = omega arith

pub returns : goal.returns
returns c =
    ap (λ (x : ℕ). x % c.args.n) (unwrapped _ _ c.loop-left.invariant.0 (omega arith))
    ∙ c.loop-left.invariant.1
