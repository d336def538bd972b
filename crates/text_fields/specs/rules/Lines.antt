-- The lines of a text, each without its end. The last may lack one, and a text of no bytes has no line.
use Rattle.std.specs.Prelude.{ℕ, suc, cond, List, [], ◌∷◌, eqb}
use Rattle.text_number.specs.rules.Bytes.{line_end}
use Rattle.text_fields.specs.declared.Stop.TheVariants.{LineEnd, Hash}
use Rattle.text_fields.specs.rules.Fields.{before}

-- a byte more in front of the first line
abbrev pub longer : ℕ → List (List ℕ) → List (List ℕ)
longer b [] = (b ∷ []) ∷ []
longer b (l ∷ ls) = (b ∷ l) ∷ ls

unfoldable pub lines : List ℕ → List (List ℕ)
lines [] = []
lines (b ∷ text) = cond (eqb b line_end) ([] ∷ lines text) (longer b (lines text))

-- how many bytes the first line has, its end included where it has one
unfoldable pub line_length : List ℕ → ℕ
line_length [] = 0
line_length (b ∷ text) = cond (eqb b line_end) 1 (suc (line_length text))

-- what the first line says in front of its comment
unfoldable pub first_said : List ℕ → List ℕ
first_said text = before Hash (before LineEnd text)
