-- The promise of `read` fixes its answer: a text says one number only.
use Rattle.std.specs.Prelude.{◌≡◌, ℤ, Option, Some, None}
use Rattle.std.proofs.Common.{sym, ◌∙◌}
use Rattle.text_dut1.specs.rules.Dut1.{Reading, shown_dut1}

shown_dut1_loses_nothing : (r s : Option ℤ) → shown_dut1 r ≡ shown_dut1 s → r ≡ s
shown_dut1_loses_nothing (Some y) (Some z) e = cc
shown_dut1_loses_nothing (Some y) None e = cc
shown_dut1_loses_nothing None (Some z) e = cc
shown_dut1_loses_nothing None None e = cc

pub one_dut1 : {a : Reading} (r s : Option ℤ) → shown_dut1 r ≡ a → shown_dut1 s ≡ a → r ≡ s
one_dut1 r s p q = shown_dut1_loses_nothing r s (p ∙ sym q)
