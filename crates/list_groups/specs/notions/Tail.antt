-- What stands after a thing that was read: a tail of the bytes, at the offset that is answered.
use Rattle.std.specs.Prelude.{ℕ, ◌≤◌, ◌≡◌, List, ◌++◌, length, drop}
use Rattle.quantity.specs.rules.Answer.{Answer, answered}
use Rattle.list_groups.specs.rules.Reading.{Got}

pub record Tail (rest s : List ℕ) : Type 0 where
  pub front : List ℕ
  pub is : s ≡ front ++ rest

-- a reader leaves a tail
abbrev pub LeavesTail : {A : Type 0} → (List ℕ → Answer (Got A)) → Type 0
LeavesTail {A} read = (bs : List ℕ) (g : Got A) → read bs ≡ answered g → Tail g.rest bs

-- a reader reads v from an offset of s on, up to the next offset
pub record Found {A : Type 0} (read : List ℕ → Answer (Got A)) (s : List ℕ) (at : ℕ) (v : A) (next : ℕ) : Type 0 where
  pub read_so : read (drop at s) ≡ answered (record { value = v; rest = drop next s })
  pub inside : next ≤ length s
