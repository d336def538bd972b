-- How the promise of the mean of headings reaches the C caller.
use Rattle.std.specs.Prelude.{ℕ, ◌≡◌, refl, List, ℤ, Result, Ok, Err}
use Rattle.double.specs.rules.Pattern.{pattern_of}
use Rattle.quantity.specs.declared.Deg.{Deg}
use Rattle.quantity.specs.rules.Answer.{Answer, number}
use Rattle.residual_sheet.specs.declared.Sheet.{Sheet}
use Rattle.quantity.specs.declared.Refusal.{Refusal}
use Rattle.heading_mean.specs.rules.Mean.{MeanAndSheet, shown_mean}
use Rattle.brundelak.specs.rules.Residuals.{numbers_of}
use Rattle.brundelak.specs.rules.Sights.{HandedMean}

module _ {r : Answer MeanAndSheet} {m : Result (Deg × Sheet) Refusal} {old : ℕ} {sheet : List ℤ} (shown : shown_mean m ≡ r) where
  pub mean_handed : {x : Deg} {s : Sheet} {new : ℕ} {sheet' : List ℤ} → m ≡ Ok (x, s) → new ≡ pattern_of x.0 → sheet' ≡ numbers_of s
      → HandedMean r 0 old sheet new sheet'
  mean_handed e x s = rw (← shown, e) (record { answers = refl; leaves_mean = x; leaves_sheet = s })

  pub no_mean_handed : {n : Refusal} → m ≡ Err n → HandedMean r (number n) old sheet old sheet
  no_mean_handed e = rw (← shown, e) (record { answers = refl; leaves_mean = refl; leaves_sheet = refl })
