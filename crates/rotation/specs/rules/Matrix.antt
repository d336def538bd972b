-- Matrices of three rows of three doubles, as code's array of arrays is on paper: a list of lists.
use Rattle.std.specs.Prelude.{ℕ, List, [], ◌∷◌, Float, get_or}
use Rattle.std.specs.Float.{nan}
use Rattle.double.specs.rules.Operations.{◌⊕◌, ◌⊗◌}

abbrev pub Vector : Type 0
Vector = List Float

abbrev pub Matrix : Type 0
Matrix = List (List Float)

-- the component i of a vector (past its end nothing: a NaN), the row i of a matrix, its entry of row i and column j
abbrev pub part : Vector → ℕ → Float
part v i = get_or v i nan

abbrev pub row : Matrix → ℕ → Vector
row m i = get_or m i []

abbrev pub entry : Matrix → ℕ → ℕ → Float
entry m i j = part (row m i) j

-- by its three components
abbrev pub vector : (ℕ → Float) → Vector
vector f = f 0 ∷ f 1 ∷ f 2 ∷ []

-- (a·b + c·d) + e·f: three products, summed left to right, none left out
abbrev pub row_with : Vector → Float → Float → Float → Float
row_with a x y z = (part a 0 ⊗ x ⊕ part a 1 ⊗ y) ⊕ part a 2 ⊗ z

-- a row with each column of a matrix
unfoldable pub row_times : Vector → Matrix → Vector
row_times a b = vector (λ (j : ℕ). row_with a (entry b 0 j) (entry b 1 j) (entry b 2 j))

-- each row of the left with each column of the right
unfoldable pub product : Matrix → Matrix → Matrix
unfolding row_times
product a b = row_times (row a 0) b ∷ row_times (row a 1) b ∷ row_times (row a 2) b ∷ []

unfoldable pub applied : Matrix → Vector → Vector
applied a v = vector (λ (i : ℕ). row_with (row a i) (part v 0) (part v 1) (part v 2))
