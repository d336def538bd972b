-- What storing one sight leaves, and what is stored after some of a text's sights.
use Rattle.std.specs.Prelude.{ℕ, ◌≤◌, ◌≡◌, List, map, length, take, set}
use Rattle.lent.specs.notions.Rows.{Row}
use Rattle.text_whole.specs.rules.Unsigned.{Reading}
use Rattle.text_fields.specs.rules.Walk.{entries_in}
use Rattle.text_fields.specs.rules.Stored.{Columns}
use Rattle.text_fields.specs.notions.Walk.{Walked}

pub record EntryStored {E : Type 0} (columns : Columns E) (e : E) (i : ℕ) (line star first second line' star' first' second' : List ℕ) : Type 0 where
  pub line_set : line' ≡ set line i (columns.line e)
  pub star_set : star' ≡ set star i (columns.star e)
  pub first_set : first' ≡ set first i (columns.first e)
  pub second_set : second' ≡ set second i (columns.second e)

-- a value of each entry that finds one of so many places, the first n of them stored
abbrev pub RowOf : {E : Type 0} → List E → (E → ℕ) → ℕ → List ℕ → List ℕ → ℕ → Type 0
RowOf es f places old cur n = Row (map f (take places es)) old cur (length (map f (take places es))) n

-- n sights are met, each stored at its place
pub record Upto {A E : Type 0} (rule : List ℕ → Reading A) (entry : A → ℕ → E) (columns : Columns E) (text : List ℕ) (places : ℕ)
    (line₀ star₀ first₀ second₀ : List ℕ) (at passed n : ℕ) (line star first second : List ℕ) : Type 0 where
  pub walked : Walked rule entry text at passed n
  pub placed : n ≤ places
  pub lines_so_far : RowOf (entries_in rule entry text) columns.line places line₀ line n
  pub stars_so_far : RowOf (entries_in rule entry text) columns.star places star₀ star n
  pub firsts_so_far : RowOf (entries_in rule entry text) columns.first places first₀ first n
  pub seconds_so_far : RowOf (entries_in rule entry text) columns.second places second₀ second n
