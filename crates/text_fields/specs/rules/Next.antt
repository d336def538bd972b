-- The lines of a text that say something, one after the other, and what any rule reads of them. What follows # is left out.
use Rattle.std.specs.Prelude.{ℕ, suc, ◌-◌, ◌≤◌, ◌≡◌, cond, List, [], ◌∷◌, length, take, drop, Option, Some, None, Result, Ok, Err}
use Rattle.text_whole.specs.rules.Unsigned.{Reading, is, none}
use Rattle.text_fields.specs.declared.Said.{Said}
use Rattle.text_fields.specs.declared.Met.{Met}
use Rattle.text_fields.specs.declared.UnclearAt.{UnclearAt}
use Rattle.text_fields.specs.declared.Stop.TheVariants.{Hash}
use Rattle.text_fields.specs.rules.Fields.{before, is_bare}
use Rattle.text_fields.specs.rules.Lines.{lines}

-- what is met, how many lines are read for it, and those behind it; the line that is unclear; nothing any more
pub data Found (A : Type 0) : Type 0 where
  found : A → ℕ → List (List ℕ) → Found A
  unclear_at : ℕ → Found A
  end : Found A

-- what the next line says that has a field in front of its comment, with so many lines read before
unfoldable pub next_said : ℕ → List (List ℕ) → Found (List ℕ)
next_said passed [] = end
next_said passed (l ∷ ls) = cond (is_bare (before Hash l)) (next_said (suc passed) ls) (found (before Hash l) (suc passed) ls)

-- offsets are places of the text
abbrev pub shown_said : List ℕ → Option Said → Found (List ℕ)
shown_said text (Some s) = found (take (s.end - s.start) (drop s.start text)) s.passed (lines (drop s.next text))
shown_said text None = end

abbrev pub IsPart : List ℕ → Option Said → Type 0
IsPart text (Some s) = (s.start ≤ s.end) × (s.end ≤ length text)
IsPart text None = Unit {0}

-- what a call from an offset on answers
pub record SaidNext (text : List ℕ) (at : ℕ) (r : Option Said) : Type 0 where
  pub says : shown_said text r ≡ next_said 0 (lines (drop at text))
  pub part : IsPart text r

-- what is met of them, in code
abbrev pub shown_next : {A : Type 0} → List ℕ → Result (Option (Met A)) UnclearAt → Found A
shown_next text (Ok (Some m)) = found m.what m.passed (lines (drop m.next text))
shown_next text (Ok None) = end
shown_next text (Err e) = unclear_at e.0

-- ---- read by a rule

abbrev pub found_on : {A : Type 0} → Reading A → ℕ → List (List ℕ) → Found A
found_on (is x) passed ls = found x passed ls
found_on none passed ls = unclear_at passed

abbrev pub read_by : {A : Type 0} → (List ℕ → Reading A) → Found (List ℕ) → Found A
read_by rule (found text passed ls) = found_on (rule text) passed ls
read_by rule (unclear_at passed) = unclear_at passed
read_by rule end = end

unfoldable pub next_of : {A : Type 0} → (List ℕ → Reading A) → ℕ → List (List ℕ) → Found A
next_of rule passed ls = read_by rule (next_said passed ls)
