-- `text_dut1::with_digit` meets its contract.
use borrow.Author.Tests.{eq-eqb, ne_eqb, le-leb, lt-leb}
use Rattle.text_dut1.specs.rules.Scan.{with_digit}
use Rattle.text_dut1.proofs.with_digit.Goals as goal

pub returns-then-whole-gt-MOST : goal.returns-then-whole-gt-MOST
unfolding with_digit
returns-then-whole-gt-MOST c = simp (lt-leb _ _ c.if-whole-gt-MOST.true) c.unclear.ensures

pub returns-then-worth-eq0 : goal.returns-then-worth-eq0
unfolding with_digit
returns-then-worth-eq0 c =
    rw (le-leb _ _ c.if-whole-gt-MOST.false, ← c.next_worth-worth.ensures, eq-eqb _ _ c.if-worth-eq0.true) c.unclear-then-worth-eq0.ensures

pub returns : goal.returns
unfolding with_digit
returns c =
    rw (le-leb _ _ c.if-whole-gt-MOST.false, ← c.next_worth-worth.ensures, ne_eqb _ _ c.if-worth-eq0.false)
