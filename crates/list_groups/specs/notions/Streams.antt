-- A reader that looks no further than it must. 13 is for bytes that end first, so that more of them may change it.
use Rattle.std.specs.Prelude.{ℕ, ◌+◌, ◌≤◌, ◌<◌, ◌≡◌, List, [], ◌∷◌, ◌++◌, length}
use Rattle.quantity.specs.rules.Answer.{Answer, answered, refused}
use Rattle.list_groups.specs.rules.Reading.{Got}

-- with more bytes after it
abbrev pub longer : {A : Type 0} → List ℕ → Got A → Got A
longer more g = record { value = g.value; rest = g.rest ++ more }

pub record Streams {A : Type 0} (read : List ℕ → Answer (Got A)) : Type 0 where
  pub answers : (bs more : List ℕ) (g : Got A) → read bs ≡ answered g → read (bs ++ more) ≡ answered (longer more g)
  pub refuses : (bs more : List ℕ) (k : ℕ) → read bs ≡ refused k → (k ≡ 13 → ⊥) → read (bs ++ more) ≡ refused k

-- a reader that takes at most so many bytes, and finds an end only in fewer
pub record TakesAtMost {A : Type 0} (most : ℕ) (read : List ℕ → Answer (Got A)) : Type 0 where
  pub takes : (bs : List ℕ) (g : Got A) → read bs ≡ answered g → length bs ≤ most + length g.rest
  pub ends : (bs : List ℕ) → read bs ≡ refused 13 → length bs < most

-- groups that go on: each has its high bit set
abbrev pub AllGoOn : List ℕ → Type 0
AllGoOn [] = Unit {0}
AllGoOn (b ∷ bs) = (128 ≤ b) × AllGoOn bs
