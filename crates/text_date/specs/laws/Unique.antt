-- The promise of `read` fixes its answer: a text says one day only.
use Rattle.std.specs.Prelude.{◌≡◌, Result, Ok, Err}
use Rattle.std.proofs.Common.{sym, ◌∙◌}
use Rattle.text_date.specs.declared.Reason.{Reason}
use Rattle.text_date.specs.rules.Date.{Reading, shown}

shown_loses_nothing : {A : Type 0} (r s : Result A Reason) → shown r ≡ shown s → r ≡ s
shown_loses_nothing (Ok x) (Ok y) e = cc
shown_loses_nothing (Ok x) (Err k) e = cc
shown_loses_nothing (Err k) (Ok y) e = cc
shown_loses_nothing (Err k) (Err l) e = cc

pub one_moment : {A : Type 0} {a : Reading A} (r s : Result A Reason) → shown r ≡ a → shown s ≡ a → r ≡ s
one_moment r s p q = shown_loses_nothing r s (p ∙ sym q)
