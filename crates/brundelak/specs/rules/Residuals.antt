-- What a C caller sees of a night's residuals: the status, and the six numbers of each sheet.
use Rattle.std.specs.Prelude.{ℕ, ◌≡◌, List, [], ◌∷◌, ℤ}
use Rattle.quantity.specs.rules.Answer.{Answer, status_of}
use Rattle.residual_sheet.specs.declared.Sheet.{Sheet}
use Rattle.residual_sheet.specs.rules.Residuals.{TwoSheets, two}
use Rattle.brundelak_handed.specs.rules.Boundary.{kept}

-- a sheet as it is laid out: count, sum, sum of squares, largest size, its first place, set aside
abbrev pub numbers_of : Sheet → List ℤ
numbers_of s = s.count ∷ s.sum ∷ s.squares ∷ s.largest ∷ s.place ∷ s.aside ∷ []

abbrev pub asc_numbers : TwoSheets → List ℤ
asc_numbers (two a d) = numbers_of a

abbrev pub dec_numbers : TwoSheets → List ℤ
dec_numbers (two a d) = numbers_of d

-- both sheets are the rule's, or what they were where the call is refused
pub record HandedSheets (r : Answer TwoSheets) (n : ℕ) (asc dec asc' dec' : List ℤ) : Type 0 where
  pub answers : n ≡ status_of r
  pub leaves_asc : asc' ≡ kept asc_numbers r asc
  pub leaves_dec : dec' ≡ kept dec_numbers r dec
