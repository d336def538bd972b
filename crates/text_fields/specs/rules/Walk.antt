-- All that a rule reads of a text's lines, in their order, each with the number of its line from 1 on, up to the first line that cannot be
-- read; and how the reading ends.
use Rattle.std.specs.Prelude.{ℕ, suc, cond, List, [], ◌∷◌, Option, Some, None, Result, Ok, Err}
use Rattle.text_whole.specs.rules.Unsigned.{Reading, is, none}
use Rattle.text_fields.specs.declared.Unclear.{Unclear}
use Rattle.text_fields.specs.declared.Stop.TheVariants.{Hash}
use Rattle.text_fields.specs.rules.Fields.{before, is_bare}
use Rattle.text_fields.specs.rules.Lines.{lines}

-- what is read of a line: something, nothing, or what cannot be read
pub data Told (A : Type 0) : Type 0 where
  told : A → Told A
  nothing : Told A
  unclear : Told A

abbrev pub told_by : {A : Type 0} → Reading A → Told A
told_by (is x) = told x
told_by none = unclear

abbrev pub shown_line : {A : Type 0} → Result (Option A) Unclear → Told A
shown_line (Ok (Some x)) = told x
shown_line (Ok None) = nothing
shown_line (Err e) = unclear

-- of what stands in front of its comment, where that has a field
unfoldable pub told_of : {A : Type 0} → (List ℕ → Reading A) → List ℕ → Told A
told_of rule line = cond (is_bare (before Hash line)) nothing (told_by (rule (before Hash line)))

-- what a line adds to the entries behind it
abbrev pub entries_with : {A E : Type 0} → (A → ℕ → E) → Told A → ℕ → List E → List E
entries_with entry (told x) line others = entry x line ∷ others
entries_with entry nothing line others = others
entries_with entry unclear line others = []

-- with so many lines before; an entry is made of what is read and the number of its line
unfoldable pub entries_from : {A E : Type 0} → (List ℕ → Reading A) → (A → ℕ → E) → ℕ → List (List ℕ) → List E
entries_from rule entry passed [] = []
entries_from rule entry passed (l ∷ ls) = entries_with entry (told_of rule l) (suc passed) (entries_from rule entry (suc passed) ls)

abbrev pub entries_in : {A E : Type 0} → (List ℕ → Reading A) → (A → ℕ → E) → List ℕ → List E
entries_in rule entry text = entries_from rule entry 0 (lines text)

-- all lines are read, or there is one that cannot be
pub data Ending : Type 0 where
  all_read : Ending
  unclear_in : ℕ → Ending

abbrev pub ending_with : {A : Type 0} → Told A → ℕ → Ending → Ending
ending_with (told x) line behind = behind
ending_with nothing line behind = behind
ending_with unclear line behind = unclear_in line

unfoldable pub ending_from : {A : Type 0} → (List ℕ → Reading A) → ℕ → List (List ℕ) → Ending
ending_from rule passed [] = all_read
ending_from rule passed (l ∷ ls) = ending_with (told_of rule l) (suc passed) (ending_from rule (suc passed) ls)

abbrev pub ending_in : {A : Type 0} → (List ℕ → Reading A) → List ℕ → Ending
ending_in rule text = ending_from rule 0 (lines text)
