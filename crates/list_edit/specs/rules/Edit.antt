-- A star struck off a stored list, one added to it, and those that are kept brought forward. Refusals: 8 for bytes that are no list, before
-- all else; strike then 10; add then 9, 18 and 19.
use Rattle.std.specs.Prelude.{ℕ, ◌-◌, ◌≡◌, Bool, cond, not, ◌&&◌, List, ◌++◌, eqb, ltb, length, take, set, replicate, ⊤, Result}
use Rattle.quantity.specs.declared.Refusal.{Refusal}
use Rattle.quantity.specs.rules.Answer.{Answer, answered, refused, shown, with}
use Rattle.list.specs.rules.Record.{in_range}
use Rattle.list.specs.rules.Stars.{is_list, stars, is_kept, kept, nought, list_bytes}
use Rattle.list.specs.rules.Find.{index_of}
use Rattle.list.specs.declared.Star.{Star}

-- some record has the number, in range or not
abbrev pub is_present : ℕ → List Star → Bool
is_present number rs = ltb (index_of number rs) (length rs)

-- the first record with the number becomes one of zeros; 10 for number 0, and where no record has the number
unfoldable pub strike_in : ℕ → List Star → Answer (List Star)
strike_in number rs = cond (not (eqb number 0) && is_present number rs) (answered (set rs (index_of number rs) nought)) (refused 10)

-- the first empty place becomes the star; 9 for number 0 and for a star out of range, then 18 where its number is present, then 19 where no
-- place is empty
unfoldable pub add_in : Star → List Star → Answer (List Star)
add_in r rs =
    cond (is_kept r && in_range r)
    (cond (is_present r.number rs) (refused 18) (cond (is_present 0 rs) (answered (set rs (index_of 0 rs) r)) (refused 19)))
    (refused 9)

-- the kept in front, in their order, and records of zeros behind them
unfoldable pub gathered : List Star → List Star
gathered rs = kept rs ++ replicate (length rs - length (kept rs)) nought

abbrev pub gather_in : List Star → Answer (List Star)
gather_in rs = answered (gathered rs)

-- an edit of the stars as one of the bytes
unfoldable pub on_list : (List Star → Answer (List Star)) → List ℕ → Answer (List ℕ)
on_list edit s = cond (is_list s) (with list_bytes (edit (stars s))) (refused 8)

abbrev pub strike_rule : List ℕ → ℕ → Answer (List ℕ)
strike_rule s number = on_list (strike_in number) s

abbrev pub add_rule : List ℕ → Star → Answer (List ℕ)
add_rule s r = on_list (add_in r) s

abbrev pub gather_rule : List ℕ → Answer (List ℕ)
gather_rule s = on_list gather_in s

-- a list's n bytes, and zeros behind them as far as the bytes go: empty places
abbrev pub with_room : List ℕ → ℕ → List ℕ
with_room s n = take n s ++ replicate (length s - n) 0

-- ---- what a call leaves, and what it answers

-- the bytes of an edit, or where it is refused those that stood there
abbrev pub bytes_after : Answer (List ℕ) → List ℕ → List ℕ
bytes_after (answered t) old = t
bytes_after (refused n) old = old

pub record Edit (edit : Answer (List ℕ)) (old new : List ℕ) (r : Result ⊤ Refusal) : Type 0 where
  pub answer : shown r ≡ with (λ (t : List ℕ). tt) edit
  pub bytes : new ≡ bytes_after edit old
