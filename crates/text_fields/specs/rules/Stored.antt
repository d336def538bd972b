-- What a text gives into four slices that are lent for its sights: of each sight its line, its star's number and two values more, whatever
-- the rule of a line and those values are.
use Rattle.std.specs.Prelude.{ℕ, min, ◌≡◌, cond, List, ◌++◌, map, ltb, length, take, drop, Result, Ok, Err}
use Rattle.text_whole.specs.rules.Unsigned.{Reading}
use Rattle.text_fields.specs.declared.Stopped.{Stopped}
use Rattle.text_fields.specs.declared.Stopped.TheVariants.{Unclear, Full}
use Rattle.text_fields.specs.rules.Walk.{entries_in, Ending, all_read, unclear_in, ending_in}

-- the values of an entry
pub record Columns (E : Type 0) : Type 0 where
  pub line : E → ℕ
  pub star : E → ℕ
  pub first : E → ℕ
  pub second : E → ℕ

abbrev pub sights_with : ℕ → Ending → Result ℕ Stopped
sights_with n all_read = Ok n
sights_with n (unclear_in line) = Err (Unclear line)

-- into slices with so many places, the first met: no place for a sight, or a line that cannot be read
unfoldable pub stored_rule : {A E : Type 0} → (List ℕ → Reading A) → (A → ℕ → E) → ℕ → List ℕ → Result ℕ Stopped
stored_rule rule entry places text =
    let n = length (entries_in rule entry text) in
    cond (ltb places n) (Err Full) (sights_with n (ending_in rule text))

-- values over a slice's front, the rest as it was
abbrev pub over : {A : Type 0} → List A → List A → List A
over new old = new ++ drop (length new) old

-- the fewest of four
abbrev pub places_of : ℕ → ℕ → ℕ → ℕ → ℕ
places_of a b c d = min (min a b) (min c d)

-- what a call leaves with so many places: its answer, and in each slice one value of each sight that was met and found a place
pub record EntriesStored {A E : Type 0} (rule : List ℕ → Reading A) (entry : A → ℕ → E) (columns : Columns E) (places : ℕ)
    (text line star first second : List ℕ) (r : Result ℕ Stopped) (line' star' first' second' : List ℕ) : Type 0 where
  pub answer : r ≡ stored_rule rule entry places text
  pub lines_are : line' ≡ over (map columns.line (take places (entries_in rule entry text))) line
  pub stars_are : star' ≡ over (map columns.star (take places (entries_in rule entry text))) star
  pub firsts_are : first' ≡ over (map columns.first (take places (entries_in rule entry text))) first
  pub seconds_are : second' ≡ over (map columns.second (take places (entries_in rule entry text))) second
