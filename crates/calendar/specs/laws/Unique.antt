-- The promise of `day_number` fixes its answer: a date has one number only.
use Rattle.std.specs.Prelude.{ℕ, ◌≡◌, Result, Ok, Err}
use Rattle.std.proofs.Common.{sym, ◌∙◌}
use Rattle.calendar.specs.declared.Missing.{Missing}
use Rattle.calendar.specs.declared.Missing.TheVariants as missing
use Rattle.calendar.specs.rules.Number.{Numbered, shown_number}

shown_number_loses_nothing : (r s : Result ℕ Missing) → shown_number r ≡ shown_number s → r ≡ s
shown_number_loses_nothing (Ok m) (Ok n) e = cc
shown_number_loses_nothing (Ok m) (Err missing.Month) e = cc
shown_number_loses_nothing (Ok m) (Err missing.Day) e = cc
shown_number_loses_nothing (Err missing.Month) (Ok n) e = cc
shown_number_loses_nothing (Err missing.Month) (Err missing.Month) e = cc
shown_number_loses_nothing (Err missing.Month) (Err missing.Day) e = cc
shown_number_loses_nothing (Err missing.Day) (Ok n) e = cc
shown_number_loses_nothing (Err missing.Day) (Err missing.Month) e = cc
shown_number_loses_nothing (Err missing.Day) (Err missing.Day) e = cc

pub one_number : {a : Numbered} (r s : Result ℕ Missing) → shown_number r ≡ a → shown_number s ≡ a → r ≡ s
one_number r s p q = shown_number_loses_nothing r s (p ∙ sym q)
