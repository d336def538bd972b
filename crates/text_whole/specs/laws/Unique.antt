-- The promises of `read_unsigned` and `read_signed` fix their answers: a reading is of one number only.
use Rattle.std.specs.Prelude.{◌≡◌, Option, Some, None}
use Rattle.std.proofs.Common.{sym, ◌∙◌}
use Rattle.text_whole.specs.rules.Unsigned.{Reading, shown}

shown_loses_nothing : {A : Type 0} (r s : Option A) → shown r ≡ shown s → r ≡ s
shown_loses_nothing (Some x) (Some y) e = cc
shown_loses_nothing (Some x) None e = cc
shown_loses_nothing None (Some y) e = cc
shown_loses_nothing None None e = cc

pub one_number : {A : Type 0} {a : Reading A} (r s : Option A) → shown r ≡ a → shown s ≡ a → r ≡ s
one_number r s p q = shown_loses_nothing r s (p ∙ sym q)
