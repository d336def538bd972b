-- `residual_sheet::sheet_from` meets its contract: each figure has its place in 63 bits.
use mathlib.Core.Path.{◌≡◌}
use Prim.Native.Nat.{ℕ, ◌+◌, ◌≤◌}
use native.Mathlib.Omega.{arith}
use lib.IntN.{pos, ◌-ℤ◌}
use mir.Syntax.{w64}
use mir.Val.{SFits, to_z}
use mir.Facts.{to_z-of_z}
use Rattle.list.specs.rules.Stars.{most_stars}
use Rattle.residual_sheet.specs.declared.Running.{Running}
use Rattle.residual_sheet.specs.rules.Running.{AtMost, sheet_from}
use Rattle.residual_sheet.specs.laws.Running.{difference_fits}
use Rattle.residual_sheet.proofs.sheet_from.Goals as goal

-- a number below 2^63 is itself
as_read : (n : ℕ) → n ≤ 3000000000000000 → to_z w64 n ≡ pos n
as_read n h = to_z-of_z {w = w64} {z = pos n} (record { sfits = omega arith })

module _ (r : Running) (most : AtMost most_stars r) where
  sizes : r.above + r.below ≤ 3000000000
  sizes = omega (arith, most.counted, most.sizes)

  above_read : to_z w64 r.above ≡ pos r.above
  above_read = as_read r.above (omega (arith, sizes))

  below_read : to_z w64 r.below ≡ pos r.below
  below_read = as_read r.below (omega (arith, sizes))

  sum_fits : SFits w64 (pos r.above -ℤ pos r.below)
  sum_fits = difference_fits r.above r.below sizes

  fits : SFits w64 (to_z w64 r.above -ℤ to_z w64 r.below)
  fits = rw (above_read, below_read) sum_fits

pub overflow_sub-result : goal.overflow_sub-result
overflow_sub-result c = fits _ c.requires

pub returns : goal.returns
unfolding sheet_from
returns c =
    let r = c.args.r in
    let most = c.requires in
    rw (above_read r most, below_read r most, to_z-of_z (sum_fits r most), as_read r.count (omega (arith, most.counted)), as_read r.squares (omega (arith, most.counted, most.squared)), as_read r.largest (omega (arith, most.large)), as_read r.place (omega (arith, most.placed)), as_read r.aside (omega (arith, most.counted)))
