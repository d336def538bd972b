-- How the promise of the residuals reaches the C caller.
use Rattle.std.specs.Prelude.{◌≡◌, refl, List, ℤ, Result, Ok, Err}
use Rattle.quantity.specs.rules.Answer.{Answer, number}
use Rattle.residual_sheet.specs.declared.Sheet.{Sheet}
use Rattle.quantity.specs.declared.Refusal.{Refusal}
use Rattle.residual_sheet.specs.rules.Residuals.{TwoSheets, shown_sheets}
use Rattle.brundelak.specs.rules.Residuals.{numbers_of, HandedSheets}

module _ {r : Answer TwoSheets} {s : Result (Sheet × Sheet) Refusal} {asc dec : List ℤ} (shown : shown_sheets s ≡ r) where
  pub sheets_handed : {a d : Sheet} {asc' dec' : List ℤ} → s ≡ Ok (a, d) → asc' ≡ numbers_of a → dec' ≡ numbers_of d
      → HandedSheets r 0 asc dec asc' dec'
  sheets_handed e a d = rw (← shown, e) (record { answers = refl; leaves_asc = a; leaves_dec = d })

  pub no_sheets_handed : {n : Refusal} → s ≡ Err n → HandedSheets r (number n) asc dec asc dec
  no_sheets_handed e = rw (← shown, e) (record { answers = refl; leaves_asc = refl; leaves_dec = refl })
