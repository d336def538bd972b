-- `text_dut1::read` meets its contract.
use borrow.Author.Tests.{eq-eqb, ne_eqb}
use mathlib.Core.Path.{◌≡◌, sym, ap, ◌∙◌}
use mathlib.Core.List.{List}
use Prim.Native.Nat.{ℕ, ◌-◌}
use native.Mathlib.Omega.{arith}
use lib.ListN.{length, take, drop, length-drop}
use lib.Seq.{take-length}
use Rattle.text_dut1.specs.laws.Steps.{no_byte, by_first_byte}
use Rattle.text_dut1.proofs.read.Goals as goal

-- what stands behind the first byte
rest : (text : List ℕ) → take (length text - 1) (drop 1 text) ≡ drop 1 text
rest text =
    ap (λ (n : ℕ). take n (drop 1 text)) (let e : length text - 1 ≡ length (drop 1 text) = omega (arith, length-drop 1 text) in e)
    ∙ take-length (drop 1 text)

pub returns-then-text-eq0 : goal.returns-then-text-eq0
returns-then-text-eq0 c = sym (no_byte c.args.text.now c.if-text-eq0.true)

pub returns-then-text-eq45 : goal.returns-then-text-eq45
returns-then-text-eq45 c =
    let text = c.args.text.now in
    rw (by_first_byte text (omega (arith, c.if-text-eq0.false)), eq-eqb _ _ c.if-text-eq45.true)
    (rw (c.scan_of.ensures, rest text) at c.with_sign.ensures)

pub returns-then-text-eq43 : goal.returns-then-text-eq43
returns-then-text-eq43 c =
    let text = c.args.text.now in
    rw (by_first_byte text (omega (arith, c.if-text-eq0.false)), ne_eqb _ _ c.if-text-eq45.false, eq-eqb _ _ c.if-text-eq43.true)
    (rw (c.scan_of-then-text-eq43.ensures, rest text) at c.with_sign-then-text-eq43.ensures)

pub returns : goal.returns
returns c =
    let text = c.args.text.now in
    rw (by_first_byte text (omega (arith, c.if-text-eq0.false)), ne_eqb _ _ c.if-text-eq45.false, ne_eqb _ _ c.if-text-eq43.false)
    (rw c.scan_of-2.ensures at c.with_sign-2.ensures)
