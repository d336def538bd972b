-- A contract through `shown_told` holds of one answer only.
use Rattle.std.specs.Prelude.{◌≡◌, ℕ, refl, Result, Ok, Err}
use Rattle.std.proofs.Common.{ap}
use Rattle.quantity.specs.declared.Refusal.{Refusal}
use Rattle.quantity.specs.laws.Answer.{number_loses_nothing}
use Rattle.report_residuals.specs.declared.Untold.{Untold}
use Rattle.report_residuals.specs.declared.Untold.TheVariants as untold
use Rattle.report_residuals.specs.rules.Text.{shown_told}

pub shown_told_loses_nothing : (r s : Result ℕ Untold) → shown_told r ≡ shown_told s → r ≡ s
shown_told_loses_nothing (Ok a) (Ok b) h = cc
shown_told_loses_nothing (Ok a) (Err (untold.List b)) h = cc
shown_told_loses_nothing (Ok a) (Err (untold.Unclear b)) h = cc
shown_told_loses_nothing (Ok a) (Err untold.TooMany) h = cc
shown_told_loses_nothing (Ok a) (Err (untold.Sheet b)) h = cc
shown_told_loses_nothing (Err (untold.List a)) (Ok b) h = cc
shown_told_loses_nothing (Err (untold.List a)) (Err (untold.List b)) h = ap (λ (e : Refusal). Err (untold.List e)) (number_loses_nothing a b cc)
shown_told_loses_nothing (Err (untold.List a)) (Err (untold.Unclear b)) h = cc
shown_told_loses_nothing (Err (untold.List a)) (Err untold.TooMany) h = cc
shown_told_loses_nothing (Err (untold.List a)) (Err (untold.Sheet b)) h = cc
shown_told_loses_nothing (Err (untold.Unclear a)) (Ok b) h = cc
shown_told_loses_nothing (Err (untold.Unclear a)) (Err (untold.List b)) h = cc
shown_told_loses_nothing (Err (untold.Unclear a)) (Err (untold.Unclear b)) h = cc
shown_told_loses_nothing (Err (untold.Unclear a)) (Err untold.TooMany) h = cc
shown_told_loses_nothing (Err (untold.Unclear a)) (Err (untold.Sheet b)) h = cc
shown_told_loses_nothing (Err untold.TooMany) (Ok b) h = cc
shown_told_loses_nothing (Err untold.TooMany) (Err (untold.List b)) h = cc
shown_told_loses_nothing (Err untold.TooMany) (Err (untold.Unclear b)) h = cc
shown_told_loses_nothing (Err untold.TooMany) (Err untold.TooMany) h = refl
shown_told_loses_nothing (Err untold.TooMany) (Err (untold.Sheet b)) h = cc
shown_told_loses_nothing (Err (untold.Sheet a)) (Ok b) h = cc
shown_told_loses_nothing (Err (untold.Sheet a)) (Err (untold.List b)) h = cc
shown_told_loses_nothing (Err (untold.Sheet a)) (Err (untold.Unclear b)) h = cc
shown_told_loses_nothing (Err (untold.Sheet a)) (Err untold.TooMany) h = cc
shown_told_loses_nothing (Err (untold.Sheet a)) (Err (untold.Sheet b)) h = ap (λ (e : Refusal). Err (untold.Sheet e)) (number_loses_nothing a b cc)
