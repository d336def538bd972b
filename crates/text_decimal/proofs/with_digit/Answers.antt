-- `text_decimal::with_digit` meets its contract.
use Rattle.std.proofs.Common.{◌≡◌, ℕ, ◌+◌, ◌*◌, ◌<◌, false, leb, sym, ap, ◌∙◌, arith, le-leb}
use borrow.Author.Tests.{lt-leb}
use lib.Ieee.{lt}
use Rattle.text_decimal.specs.rules.Decimal.{most, widest, with_digit}
use Rattle.text_decimal.proofs.with_digit.Goals as goal

-- a number that is past the most stays so
past : (n d : ℕ) → most < n → leb (n * 10 + d) most ≡ false
past n d h = lt-leb (n * 10 + d) most (omega arith)

pub returns-then-scan-gt-MOST : goal.returns-then-scan-gt-MOST
unfolding with_digit
returns-then-scan-gt-MOST c = simp (past _ c.args.d c.if-scan-gt-MOST.true) c.unclear.ensures

pub returns-then-whole-gt-MOST : goal.returns-then-whole-gt-MOST
unfolding with_digit
returns-then-whole-gt-MOST c = simp (lt-leb _ _ c.if-whole-gt-MOST.true) c.unclear-then-whole-gt-MOST.ensures

pub returns-then-scale : goal.returns-then-scale
unfolding with_digit
returns-then-scale c = simp (le-leb _ _ c.if-whole-gt-MOST.false, ap (lt widest) (sym c.next_scale-scale.ensures) ∙ c.if-scale.true) c.unclear-then-scale.ensures

pub returns : goal.returns
unfolding with_digit
returns c = simp (le-leb _ _ c.if-whole-gt-MOST.false, ← c.next_scale-scale.ensures, c.if-scale.false)
