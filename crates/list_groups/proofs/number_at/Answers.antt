-- `list_groups::number_at` meets its contract: what was read so far and the bytes from p on make the number.
use native.Mathlib.Omega.{arith}
use native.Mathlib.Nat.{mul-le-mul_left}
use mathlib.Core.Path.{◌≡◌, subst}
use Prim.Native.Nat.{ℕ, ◌+◌, ◌*◌, ◌-◌, ◌≤◌}
use Rattle.list_groups.proofs.Steps.{Midway, begin, middle, highest, ends, small, top, padded, stops, too_high_lem, on}
use Rattle.list_groups.proofs.number_at.Goals as goal

pub loop-init : goal.loop-init
loop-init c = begin _ _

pub returns-then-p-bytes : goal.returns-then-p-bytes
returns-then-p-bytes c = ends _ _ _ _ _ _ _ c.loop.invariant c.if-p-bytes.true

pub returns-then-b-least : goal.returns-then-b-least
returns-then-b-least c =
    let l = c.loop in
    let byte = c.wide-b in
    padded _ _ _ _ _ _ _ l.invariant byte.result (omega arith) byte.ensures.0 (small _ _ _ _ _ _ _ l.invariant byte.result (omega arith) byte.ensures.0 (omega arith) (omega arith)) (omega arith)

pub overflow_mul-result : goal.overflow_mul-result
overflow_mul-result c =
    let l = c.loop in
    let h : c.wide-b.result ≤ 127 = omega arith in
    omega (arith, middle l.weight (4 - l.counter) (omega arith) l.invariant.room, mul-le-mul_left l.weight h)

pub overflow_add-result : goal.overflow_add-result
overflow_add-result c =
    let l = c.loop in
    let h : c.wide-b.result ≤ 127 = omega arith in
    omega (arith, l.invariant.below, middle l.weight (4 - l.counter) (omega arith) l.invariant.room, mul-le-mul_left l.weight h)

pub returns-then-b-lt128 : goal.returns-then-b-lt128
returns-then-b-lt128 c =
    let l = c.loop in
    let byte = c.wide-b in
    stops _ _ _ _ _ _ _ l.invariant byte.result (omega arith) byte.ensures.0 (small _ _ _ _ _ _ _ l.invariant byte.result (omega arith) byte.ensures.0 (omega arith) (omega arith)) (omega arith)

pub overflow_mul-low : goal.overflow_mul-low
overflow_mul-low c =
    let l = c.loop in
    let h : c.wide-b.result - 128 ≤ 127 = omega arith in
    omega (arith, middle l.weight (4 - l.counter) (omega arith) l.invariant.room, mul-le-mul_left l.weight h)

pub overflow_add-low : goal.overflow_add-low
overflow_add-low c =
    let l = c.loop in
    let h : c.wide-b.result - 128 ≤ 127 = omega arith in
    omega (arith, l.invariant.below, middle l.weight (4 - l.counter) (omega arith) l.invariant.room, mul-le-mul_left l.weight h)

pub overflow_mul-weight : goal.overflow_mul-weight
overflow_mul-weight c =
    let l = c.loop in
    omega (arith, middle l.weight (4 - l.counter) (omega arith) l.invariant.room)

pub loop-preserved : goal.loop-preserved
loop-preserved c =
    let l = c.loop in
    let byte = c.wide-b in
    let one_less : 4 - l.counter - 1 ≡ 4 - (l.counter + 1) = omega arith in
    subst (λ (more : ℕ). Midway c.args.bytes.now c.args.at more 1 (l.low + l.weight * (byte.result - 128)) (l.weight * 128) (l.p + 1)) one_less
    (on _ _ _ _ _ _ _ l.invariant byte.result (omega arith) byte.ensures.0 (omega arith) (omega arith) byte.ensures.1)

pub returns-then-p-bytes-2 : goal.returns-then-p-bytes-2
returns-then-p-bytes-2 c = ends _ _ _ _ _ _ _ c.loop.invariant c.if-p-bytes-2.true

pub returns-then-b-least-2 : goal.returns-then-b-least-2
returns-then-b-least-2 c =
    let l = c.loop in
    let byte = c.wide-b-2 in
    padded _ _ _ _ _ _ _ l.invariant byte.result (omega arith) byte.ensures.0 (top _ _ _ _ _ _ _ l.invariant byte.result (omega arith) byte.ensures.0 (omega arith) (omega arith)) (omega arith)

pub overflow_mul-result-then-b-lt16 : goal.overflow_mul-result-then-b-lt16
overflow_mul-result-then-b-lt16 c =
    let l = c.loop in
    let h : c.wide-b-2.result ≤ 15 = omega arith in
    omega (arith, highest l.weight (4 - l.counter) (omega arith) l.invariant.room, mul-le-mul_left l.weight h)

pub overflow_add-result-then-b-lt16 : goal.overflow_add-result-then-b-lt16
overflow_add-result-then-b-lt16 c =
    let l = c.loop in
    let h : c.wide-b-2.result ≤ 15 = omega arith in
    omega (arith, l.invariant.below, highest l.weight (4 - l.counter) (omega arith) l.invariant.room, mul-le-mul_left l.weight h)

pub returns-then-b-lt16 : goal.returns-then-b-lt16
returns-then-b-lt16 c =
    let l = c.loop in
    let byte = c.wide-b-2 in
    stops _ _ _ _ _ _ _ l.invariant byte.result (omega arith) byte.ensures.0 (top _ _ _ _ _ _ _ l.invariant byte.result (omega arith) byte.ensures.0 (omega arith) (omega arith)) (omega arith)

pub returns : goal.returns
returns c =
    let l = c.loop in
    let byte = c.wide-b-2 in
    too_high_lem _ _ _ _ _ _ _ l.invariant byte.result (omega arith) byte.ensures.0 (omega arith) (omega arith)
