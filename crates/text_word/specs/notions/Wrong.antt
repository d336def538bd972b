-- Wrong variants of a word's test.
use Rattle.std.specs.Prelude.{ℕ, Bool, true, false, ◌&&◌, List, [], ◌∷◌, eqb}

-- a text that begins with the word
abbrev pub word_begins : List ℕ → List ℕ → Bool
word_begins text [] = true
word_begins (x ∷ text) (y ∷ word) = eqb x y && word_begins text word
word_begins [] (y ∷ word) = false

-- a text that the word begins with
abbrev pub text_begins : List ℕ → List ℕ → Bool
text_begins text word = word_begins word text
