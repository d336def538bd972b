-- What holds of the sheets of lists.
use Rattle.std.specs.Prelude.{◌≤◌, ◌≡◌, List, [], ◌∷◌}
use Rattle.residual_sheet.specs.declared.Residual.{Residual}
use Rattle.residual_sheet.specs.rules.Residual.{farthest_taken}
use Rattle.residual_sheet.specs.rules.Sheet.{Figures}

-- where nothing is taken in, largest and place are 0
pub record IsSheet (f : Figures) : Type 0 where
  pub no_largest : f.count ≡ 0 → f.largest ≡ 0
  pub no_place : f.count ≡ 0 → f.place ≡ 0

-- none is of a size that is set aside
abbrev pub AllNear : List Residual → Type 0
AllNear [] = Unit {0}
AllNear (x ∷ xs) = (x.size ≤ farthest_taken) × AllNear xs
