-- P of each component of a vector, of each entry of a matrix, and that it has three rows of three.
use Rattle.std.specs.Prelude.{ℕ, zero, suc, List, [], ◌∷◌, Float}
use Rattle.std.specs.Float.Ieee.{neg}
use Rattle.double.specs.rules.Operations.{one}
use Rattle.double.specs.rules.Order.{Between}
use Rattle.rotation.specs.rules.Matrix.{Vector, Matrix}

-- n of them, each with P
abbrev pub Each : {A : Type 0} → (A → Type 0) → ℕ → List A → Type 0
Each P zero [] = Unit {0}
Each P zero (x ∷ xs) = ⊥
Each P (suc n) [] = ⊥
Each P (suc n) (x ∷ xs) = P x × Each P n xs

abbrev pub Components : (Float → Type 0) → Vector → Type 0
Components P v = Each P 3 v

abbrev pub Entries : (Float → Type 0) → Matrix → Type 0
Entries P m = Each (Components P) 3 m

abbrev pub UpToOne : Float → Type 0
UpToOne x = Between (neg one) one x
