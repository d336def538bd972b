-- What an answered edit comes to, on stars and on bytes, and what gather has written on its way.
use Rattle.std.specs.Prelude.{ℕ, ◌+◌, ◌*◌, ◌≤◌, ◌<◌, ◌≡◌, true, List, ◌++◌, length, take, drop, set, get_or}
use Rattle.quantity.specs.rules.Answer.{Answer, answered}
use Rattle.list.specs.rules.Record.{width, in_range}
use Rattle.list.specs.rules.Stars.{is_list, count_of, stars, is_kept, kept, nought, nth, list_bytes}
use Rattle.list.specs.rules.Find.{index_of, Entry}
use Rattle.list.specs.declared.Star.{Star}

-- no record has the number, in range or not
abbrev pub Absent : ℕ → List Star → Type 0
Absent number rs = (i : ℕ) → i < length rs → (get_or rs i nought).number ≡ number → ⊥

-- bytes that are a list, whose stars are edited, and the bytes of these
pub record Worked (edit : List Star → Answer (List Star)) (s t : List ℕ) : Type 0 where
  pub list : is_list s ≡ true
  pub rs : List Star
  pub work : edit (stars s) ≡ answered rs
  pub bytes : t ≡ list_bytes rs

pub record Struck (number : ℕ) (rs ts : List Star) : Type 0 where
  pub above : 0 < number
  pub there : index_of number rs < length rs
  pub is : ts ≡ set rs (index_of number rs) nought

pub record Placed (r : Star) (rs ts : List Star) : Type 0 where
  pub kept : is_kept r ≡ true
  pub range : in_range r ≡ true
  pub fresh : length rs ≤ index_of r.number rs
  pub there : index_of 0 rs < length rs
  pub is : ts ≡ set rs (index_of 0 rs) r

-- the bytes of the first record with the number became t, and every other byte is what it was
pub record FirstBecame (number : ℕ) (t old new : List ℕ) : Type 0 where
  pub index : ℕ
  pub inside : index < count_of old
  pub numbered : (nth old index).number ≡ number
  pub first : (i : ℕ) → i < index → (nth old i).number ≡ number → ⊥
  pub bytes : new ≡ take (index * width) old ++ t ++ drop (index * width + width) old

-- the bytes of those that are kept of the first i records
abbrev pub kept_upto : List ℕ → ℕ → List ℕ
kept_upto s i = list_bytes (kept (take i (stars s)))

-- a found star without its index
abbrev pub star_of : Entry → Star
star_of e = e.star
