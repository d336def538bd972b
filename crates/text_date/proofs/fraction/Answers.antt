-- `text_date::fraction` meets its contract.
use Rattle.std.proofs.Common.{ℕ, List, sym, arith, rules}
use Rattle.text_date.specs.rules.Digits.{digit_of, joined}
use Rattle.text_date.specs.rules.Time.{frac_byte, fraction_of}
use Rattle.text_date.specs.laws.Steps.{joined_first, joined_second, joined_both}
use Rattle.text_date.proofs.fraction.Goals as goal

abbrev place : List ℕ → ℕ → ℕ
place text i = digit_of (frac_byte text i)

pub returns-in_err-a-clause-says : goal.returns-in_err-a-clause-says
unfolding fraction_of
returns-in_err-a-clause-says c =
    let text = c.args.text.now in
    let e = joined_first 10 (place text 20) (place text 21) (sym (rw c.frac_byte.ensures at c.in_err-a.ensures.says)) in
    rw (joined_first 10 (joined 10 (place text 20) (place text 21)) (place text 22) e) (search rules)

pub returns-in_err-b-clause-says : goal.returns-in_err-b-clause-says
unfolding fraction_of
returns-in_err-b-clause-says c =
    let text = c.args.text.now in
    let e = joined_second 10 (place text 20) (place text 21) (sym (rw c.frac_byte-2.ensures at c.in_err-b.ensures.says)) in
    rw (joined_first 10 (joined 10 (place text 20) (place text 21)) (place text 22) e) (search rules)

pub returns-in_err-c-clause-says : goal.returns-in_err-c-clause-says
unfolding fraction_of
returns-in_err-c-clause-says c =
    let text = c.args.text.now in
    let e = sym (rw c.frac_byte-3.ensures at c.in_err-c.ensures.says) in
    rw (joined_second 10 (joined 10 (place text 20) (place text 21)) (place text 22) e) (search rules)

pub returns-clause-says : goal.returns-clause-says
unfolding fraction_of
returns-clause-says c =
    let a = c.in_ok-a.ensures in
    let b = c.in_ok-b.ensures in
    let d = c.in_ok-c.ensures in
    rw (
      ← (rw c.frac_byte.ensures at a.says),
      ← (rw c.frac_byte-2.ensures at b.says),
      ← (rw c.frac_byte-3.ensures at d.says),
      ← joined_both 10 c.in_ok-a.a c.in_ok-b.b (omega (arith, a.below)) (omega (arith, b.below)),
    ) (joined_both 10 _ _ (omega (arith, a.below, b.below)) (omega (arith, d.below)))
