-- The promise of `read` fixes its answer: a reading is of one day only.
use Rattle.std.specs.Prelude.{◌≡◌, Float, Option, Some, None}
use Rattle.std.proofs.Common.{sym, ◌∙◌}
use Rattle.text_decimal.specs.rules.Decimal.{Reading, shown_decimal}

shown_decimal_loses_nothing : (r s : Option Float) → shown_decimal r ≡ shown_decimal s → r ≡ s
shown_decimal_loses_nothing (Some x) (Some y) e = cc
shown_decimal_loses_nothing (Some x) None e = cc
shown_decimal_loses_nothing None (Some y) e = cc
shown_decimal_loses_nothing None None e = cc

pub one_decimal : {a : Reading} (r s : Option Float) → shown_decimal r ≡ a → shown_decimal s ≡ a → r ≡ s
one_decimal r s p q = shown_decimal_loses_nothing r s (p ∙ sym q)
