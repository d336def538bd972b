-- `remainder::packed` meets its contract: r is `Raised` by its leading zeros, or as far as g goes.
use mathlib.Core.Path.{◌≡◌, sym, ap, ◌∙◌}
use Prim.Native.Nat.{ℕ, ◌+◌, ◌-◌, ◌*◌, ◌%◌, ◌^◌}
use native.Mathlib.Nat.{zero-mul}
use native.Mathlib.Omega.{arith}
use lib.Dec.{lit<}
use lib.Pow.{pow_pos}
use lib.Count.{count_leading_zeros}
use Rattle.double.specs.notions.Count.{Raised}
use Rattle.double.specs.laws.Patterns.{count_low}
use Rattle.double.specs.laws.Raised.{raised}
use Rattle.remainder.specs.laws.Digits.{pack_high, pack_low}
use Rattle.remainder.proofs.packed.Goals as goal

up : (c : goal.Else-r-eq0) → Raised c.args.r (count_leading_zeros 64 c.args.r)
up c = raised c.args.r (omega arith) c.requires.0

pub returns-then-r-eq0 : goal.returns-then-r-eq0
returns-then-r-eq0 c = (
  lit< tt,
  count_low 0 (pow_pos 52) ∙ sym (zero-mul (2 ^ c.args.g)) ∙ ap (λ (x : ℕ). x * 2 ^ c.args.g) (sym c.if-r-eq0.true),
)

pub overflow_cast-up : goal.overflow_cast-up
overflow_cast-up c = omega (arith, up c)

pub overflow_sub-up : goal.overflow_sub-up
overflow_sub-up c = omega (arith, up c)

pub overflow_shl-result-then-up-g : goal.overflow_shl-result-then-up-g
overflow_shl-result-then-up-g c = omega (arith, up c.before)

pub overflow_add-result : goal.overflow_add-result
overflow_add-result c = omega (arith, up c.before)

pub overflow_shl-result-else-up-g : goal.overflow_shl-result-else-up-g
overflow_shl-result-else-up-g c = omega (arith, up c.before)

pub returns-then-up-g : goal.returns-then-up-g
returns-then-up-g c =
    let r = c.args.r in
    let g = c.args.g in
    let u = count_leading_zeros 64 r - 11 in
    let z = up c.before in
    let unwrapped : (g - u) * 2 ^ 52 % 2 ^ 64 + r * 2 ^ u % 2 ^ 64 ≡ (g - u) * 2 ^ 52 + r * 2 ^ u = omega (arith, z.most) in
    rw unwrapped (pack_high r g u z.least z.most c.if-up-g.true c.requires.1)

pub returns-else-up-g : goal.returns-else-up-g
returns-else-up-g c =
    let r = c.args.r in
    let g = c.args.g in
    let p = pack_low r g (count_leading_zeros 64 r - 11) (up c.before).most c.if-up-g.false in
    let unwrapped : r * 2 ^ g % 2 ^ 64 ≡ r * 2 ^ g = omega (arith, p.0) in
    rw unwrapped p
