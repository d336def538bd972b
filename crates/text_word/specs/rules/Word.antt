-- Whether two texts are one, byte for byte.
use Rattle.std.specs.Prelude.{ℕ, Bool, true, false, ◌&&◌, List, [], ◌∷◌, eqb}

abbrev pub is_word : List ℕ → List ℕ → Bool
is_word [] [] = true
is_word (x ∷ text) (y ∷ word) = eqb x y && is_word text word
is_word [] (y ∷ word) = false
is_word (x ∷ text) [] = false
