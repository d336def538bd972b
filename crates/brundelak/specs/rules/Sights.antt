-- What a C caller sees of the mean of headings: the status, the bits of the mean, and the six numbers of the sheet.
use Rattle.std.specs.Prelude.{ℕ, ◌≡◌, List, ℤ}
use Rattle.double.specs.rules.Pattern.{pattern_of}
use Rattle.quantity.specs.rules.Answer.{Answer, status_of}
use Rattle.heading_mean.specs.rules.Mean.{MeanAndSheet, mean}
use Rattle.brundelak_handed.specs.rules.Boundary.{kept}
use Rattle.brundelak.specs.rules.Residuals.{numbers_of}

abbrev pub mean_bits : MeanAndSheet → ℕ
mean_bits (mean x s) = pattern_of x.0

abbrev pub sheet_numbers : MeanAndSheet → List ℤ
sheet_numbers (mean x s) = numbers_of s

-- mean and sheet are the rule's, or what they were where the call is refused
pub record HandedMean (r : Answer MeanAndSheet) (n : ℕ) (old : ℕ) (sheet : List ℤ) (new : ℕ) (sheet' : List ℤ) : Type 0 where
  pub answers : n ≡ status_of r
  pub leaves_mean : new ≡ kept mean_bits r old
  pub leaves_sheet : sheet' ≡ kept sheet_numbers r sheet
