-- `report_day::put_digits` meets its contract: after i passes at most 32 - i digits are to come.
use mathlib.Core.Path.{◌≡◌, refl}
use Prim.Native.Nat.{ℕ, ◌+◌, ◌-◌}
use native.Mathlib.Omega.{arith}
use borrow.Author.Tests.{eq-eqb, ne_eqb}
use Rattle.report_day.specs.rules.Digits.{count_after}
use Rattle.report_day.specs.laws.Walk.{begun, passed, ended}
use Rattle.report_day.proofs.put_digits.Goals as goal

one_fewer : (i left : ℕ) → (left ≡ 0 → ⊥) → count_after (32 - i) left ≡ 32 - (i + 1)
one_fewer i left some = rw (ne_eqb left 0 some) (omega arith)

none_more : (n left : ℕ) → left ≡ 0 → count_after n left ≡ 0
none_more n left e = rw (eq-eqb left 0 e)

pub loop-i-init : goal.loop-i-init
loop-i-init c = begun c.within-offset.ensures refl

pub returns-then-left-eq0 : goal.returns-then-left-eq0
returns-then-left-eq0 c =
    let w = rw c.digit_of.ensures at c.put_byte-offset.ensures in
    let left = rw c.left_of-left.ensures at c.if-left-eq0.true in
    ended (passed c.loop-i.invariant (λ e. omega (arith, e)) w) (none_more _ _ left)

pub loop-i-preserved : goal.loop-i-preserved
loop-i-preserved c =
    let w = rw c.digit_of.ensures at c.put_byte-offset.ensures in
    rw (← one_fewer c.loop-i.i _ c.if-left-eq0.false, c.left_of-left.ensures)
    (passed c.loop-i.invariant (λ e. omega (arith, e)) w)

pub returns : goal.returns
returns c = ended c.loop-i.invariant (omega arith)
