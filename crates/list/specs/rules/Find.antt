-- The first star with a number: 8, then 10, then 9.
use Rattle.std.specs.Prelude.{ℕ, suc, cond, List, [], ◌∷◌, eqb, ltb, length, get_or, Result, Ok, Err}
use Rattle.quantity.specs.declared.Refusal.{Refusal}
use Rattle.quantity.specs.rules.Answer.{Answer, answered, refused, number}
use Rattle.list.specs.rules.Record.{in_range}
use Rattle.list.specs.rules.Stars.{is_list, stars, nought}
use Rattle.list.specs.declared.Star.{Star}

-- a found star, and its index
pub record Entry : Type 0 where
  pub index : ℕ
  pub star : Star

abbrev pub shown_found : Result (ℕ × Star) Refusal → Answer Entry
shown_found (Ok (i, r)) = answered (record { index = i; star = r })
shown_found (Err e) = refused (number e)

-- the index of the first star with the number, or how many there are where none has it
unfoldable pub index_of : ℕ → List Star → ℕ
index_of number [] = 0
index_of number (r ∷ rs) = cond (eqb r.number number) 0 (suc (index_of number rs))

-- the star itself, at index i
abbrev pub entry : ℕ → Star → Answer Entry
entry i r = cond (in_range r) (answered (record { index = i; star = r })) (refused 9)

abbrev pub entry_at : List Star → ℕ → Answer Entry
entry_at rs i = cond (ltb i (length rs)) (entry i (get_or rs i nought)) (refused 10)

-- an empty place is no star: 0 is no star's number
abbrev pub find_in : List Star → ℕ → Answer Entry
find_in rs number = cond (eqb number 0) (refused 10) (entry_at rs (index_of number rs))

abbrev pub find_rule : List ℕ → ℕ → Answer Entry
find_rule s number = cond (is_list s) (find_in (stars s) number) (refused 8)
