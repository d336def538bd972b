-- A star added: what stands before the offset after it is a list, of the stars before it and the star.
use Rattle.std.specs.Prelude.{ℕ, ◌≡◌, true, List, [], ◌∷◌, ◌++◌, take}
use Rattle.list.specs.rules.Stars.{is_list, stars}
use Rattle.list.specs.declared.Star.{Star}

pub record Added (old : List ℕ) (at : ℕ) (r : Star) (new : List ℕ) (next : ℕ) : Type 0 where
  pub list : is_list (take next new) ≡ true
  pub added : stars (take next new) ≡ stars (take at old) ++ (r ∷ [])
