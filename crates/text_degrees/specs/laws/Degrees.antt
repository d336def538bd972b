-- The rule without a byte and by the first one, and that the promise of `read` fixes its answer.
use Rattle.std.specs.Prelude.{ℕ, ◌<◌, ◌≡◌, refl, true, false, cond, List, [], ◌∷◌, eqb, length, drop, get_or, Option, Some, None}
use Rattle.std.proofs.Common.{sym, ◌∙◌, arith}
use Rattle.text_number.specs.rules.Bytes.{plus_sign, minus_sign}
use Rattle.text_decimal.specs.rules.Decimal.{decimal_rule}
use Rattle.quantity.specs.declared.Deg.{Deg}
use Rattle.text_degrees.specs.rules.Degrees.{Angle, unclear, shown_read_degrees, with_sign, degrees_rule}

pub no_angle : (text : List ℕ) → length text ≡ 0 → degrees_rule text ≡ unclear
unfolding degrees_rule
no_angle [] h = refl
no_angle (b ∷ text) h = absurd (omega arith)

pub by_first_byte : (text : List ℕ) → 0 < length text
    → degrees_rule text
    ≡ cond (eqb (get_or text 0 0) minus_sign) (with_sign true (decimal_rule (drop 1 text)))
    (cond (eqb (get_or text 0 0) plus_sign) (with_sign false (decimal_rule (drop 1 text))) (with_sign false (decimal_rule text)))
unfolding degrees_rule
by_first_byte [] h = absurd (omega arith)
by_first_byte (b ∷ text) h = refl

read_degrees_loses_nothing : (r s : Option Deg) → shown_read_degrees r ≡ shown_read_degrees s → r ≡ s
read_degrees_loses_nothing (Some x) (Some y) e = cc
read_degrees_loses_nothing (Some x) None e = cc
read_degrees_loses_nothing None (Some y) e = cc
read_degrees_loses_nothing None None e = cc

pub one_angle : {a : Angle} (r s : Option Deg) → shown_read_degrees r ≡ a → shown_read_degrees s ≡ a → r ≡ s
one_angle r s p q = read_degrees_loses_nothing r s (p ∙ sym q)
