-- Wrong variants of lines and of the walk along them.
use Rattle.std.specs.Prelude.{ℕ, suc, ◌-◌, cond, List, [], ◌∷◌, eqb}
use Rattle.text_number.specs.rules.Bytes.{line_end}
use Rattle.text_whole.specs.rules.Unsigned.{Reading}
use Rattle.text_fields.specs.declared.Stop.TheVariants.{Hash}
use Rattle.text_fields.specs.rules.Fields.{before, is_bare}
use Rattle.text_fields.specs.rules.Lines.{longer}
use Rattle.text_fields.specs.rules.Next.{Found, found, end}
use Rattle.text_fields.specs.rules.Walk.{Told, told, nothing, unclear, told_by, told_of, entries_in}

-- one more line behind the last line's end
abbrev pub line_too_many : List ℕ → List (List ℕ)
line_too_many [] = [] ∷ []
line_too_many (b ∷ text) = cond (eqb b line_end) ([] ∷ line_too_many text) (longer b (line_too_many text))

-- a last line that has no end is none
abbrev pub last_line_dropped : List ℕ → List (List ℕ)
last_line_dropped [] = []
last_line_dropped (b ∷ text) = cond (eqb b line_end) ([] ∷ last_line_dropped text) (onward (last_line_dropped text))
  where
    onward : List (List ℕ) → List (List ℕ)
    onward [] = []
    onward (l ∷ ls) = (b ∷ l) ∷ ls

-- a line that says nothing is the last
abbrev pub bare_line_ends : ℕ → List (List ℕ) → Found (List ℕ)
bare_line_ends passed [] = end
bare_line_ends passed (l ∷ ls) = cond (is_bare (before Hash l)) end (found (before Hash l) (suc passed) ls)

-- lines that say nothing are not counted
abbrev pub bare_lines_uncounted : ℕ → List (List ℕ) → Found (List ℕ)
bare_lines_uncounted passed [] = end
bare_lines_uncounted passed (l ∷ ls) = cond (is_bare (before Hash l)) (bare_lines_uncounted passed ls) (found (before Hash l) (suc passed) ls)

-- ---- for every rule

-- a comment read as fields
abbrev pub comment_taken : {A : Type 0} → (List ℕ → Reading A) → List ℕ → Told A
comment_taken rule line = cond (is_bare line) nothing (told_by (rule line))

-- a line that cannot be read passed over
abbrev pub unclear_passed_over : {A E : Type 0} → (List ℕ → Reading A) → (A → ℕ → E) → ℕ → List (List ℕ) → List E
unclear_passed_over rule entry passed [] = []
unclear_passed_over {A = A} {E = E} rule entry passed (l ∷ ls) = withLine (told_of rule l) (unclear_passed_over rule entry (suc passed) ls)
  where
    withLine : Told A → List E → List E
    withLine (told x) others = entry x (suc passed) ∷ others
    withLine nothing others = others
    withLine unclear others = others

-- the first line is line 0
abbrev pub counted_from_zero : {A E : Type 0} → (List ℕ → Reading A) → (A → ℕ → E) → List ℕ → List E
counted_from_zero {A = A} rule entry text = entries_in rule (λ (x : A) (line : ℕ). entry x (line - 1)) text
