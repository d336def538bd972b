-- A sum in two parts as a double.
use Rattle.std.specs.Prelude.{◌≡◌, false, ℕ, zero, suc, ◌-◌, ◌≤◌, ◌<◌, pos, negsuc, ◌-ℤ◌}
use Rattle.std.proofs.Common.{sym, ap, ◌∙◌, arith, lt-ltb, le-ltb}
use Rattle.std.specs.Float.{binary64}
use Rattle.std.specs.Float.Ieee.{neg, of_int}
use Rattle.double.specs.rules.Whole.{from_whole}
use Rattle.double.specs.laws.Rounding.{round_neg}

below_zero : (n : ℕ) → neg (of_int binary64 (pos (suc n))) ≡ of_int binary64 (negsuc n)
unfolding of_int
below_zero n = sym (round_neg binary64 false (suc n) 1)

pub sum_below : (a b : ℕ) → a < b → neg (from_whole (b - a)) ≡ of_int binary64 (pos a -ℤ pos b)
sum_below a zero h = absurd (omega arith)
sum_below a (suc b) h =
    let k : suc b - a ≡ suc (suc b - suc a) = omega arith in
    ap (λ (n : ℕ). neg (from_whole n)) k ∙ below_zero (suc b - suc a) ∙ rw (lt-ltb a (suc b) h)

pub sum_above : (a b : ℕ) → b ≤ a → from_whole (a - b) ≡ of_int binary64 (pos a -ℤ pos b)
sum_above a zero h = ap from_whole (omega arith)
sum_above a (suc b) h = rw (le-ltb a (suc b) h)
