-- `text_dut1::with_byte` meets its contract.
use borrow.Author.Tests.{eq-eqb, ne_eqb, le-leb, lt-leb}
use Rattle.text_dut1.specs.rules.Scan.{with_byte}
use Rattle.text_dut1.proofs.with_byte.Goals as goal

pub returns-then-b-eq46 : goal.returns-then-b-eq46
unfolding with_byte
returns-then-b-eq46 c = simp (eq-eqb _ _ c.if-b-eq46.true) c.with_point.ensures

pub returns-then-b-lt48 : goal.returns-then-b-lt48
unfolding with_byte
returns-then-b-lt48 c = simp (ne_eqb _ _ c.if-b-eq46.false, lt-leb _ _ c.if-b-lt48.true) c.unclear.ensures

pub returns-then-b-gt57 : goal.returns-then-b-gt57
unfolding with_byte
returns-then-b-gt57 c = simp (ne_eqb _ _ c.if-b-eq46.false, le-leb _ _ c.if-b-lt48.false, lt-leb _ _ c.if-b-gt57.true)
    c.unclear-then-b-gt57.ensures

pub returns : goal.returns
unfolding with_byte
returns c = simp (ne_eqb _ _ c.if-b-eq46.false, le-leb _ _ c.if-b-lt48.false, le-leb _ _ c.if-b-gt57.false)
    c.with_digit.ensures
