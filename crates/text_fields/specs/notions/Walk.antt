-- Where a walk from entry to entry stands, and how it ends.
use Rattle.std.specs.Prelude.{ℕ, ◌+◌, ◌≤◌, ◌≡◌, List, length, drop}
use Rattle.text_whole.specs.rules.Unsigned.{Reading}
use Rattle.text_fields.specs.rules.Lines.{lines}
use Rattle.text_fields.specs.rules.Walk.{entries_from, entries_in, Ending, ending_from, ending_in}

-- n entries are met, and those from the offset on, with so many lines before it, are the others
pub record Walked {A E : Type 0} (rule : List ℕ → Reading A) (entry : A → ℕ → E) (text : List ℕ) (at passed n : ℕ) : Type 0 where
  pub others : entries_from rule entry passed (lines (drop at text)) ≡ drop n (entries_in rule entry text)
  pub ending : ending_from rule passed (lines (drop at text)) ≡ ending_in rule text
  pub left : passed + length (lines (drop at text)) ≡ length (lines text)
  pub met : n ≤ length (entries_in rule entry text)

-- every entry is met, and so the reading ends
pub record Ended {A E : Type 0} (rule : List ℕ → Reading A) (entry : A → ℕ → E) (text : List ℕ) (n : ℕ) (ending : Ending) : Type 0 where
  pub all_met : n ≡ length (entries_in rule entry text)
  pub ends : ending ≡ ending_in rule text
