-- Whether a residual of a size is taken in, and how numbers lie.
use Rattle.std.specs.Prelude.{ℕ, ◌<◌, ◌≡◌, Bool, true, false, cond, List, [], ◌∷◌, get_or}
use Rattle.residual_sheet.specs.rules.Entry.{Entry, other}
use Rattle.residual_sheet.specs.rules.Sheet.{has_size}

-- one of size n is taken in
abbrev pub is_there : ℕ → List Entry → Bool
is_there n [] = false
is_there n (e ∷ es) = cond (has_size n e) true (is_there n es)

pub data Some (n : ℕ) : Type 0 where
  none : n ≡ 0 → Some n
  some : 0 < n → Some n

pub data Order (m n : ℕ) : Type 0 where
  less : m < n → Order m n
  same : m ≡ n → Order m n
  more : n < m → Order m n

-- at place i one of size n is taken in, and none before it
pub record IsFirst (n : ℕ) (es : List Entry) (i : ℕ) : Type 0 where
  pub there : has_size n (get_or es i other) ≡ true
  pub before : (j : ℕ) → j < i → has_size n (get_or es j other) ≡ false
