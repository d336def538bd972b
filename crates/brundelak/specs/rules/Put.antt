-- What a C caller sees of one number answered, and of a text put into a slice that is lent.
use Rattle.std.specs.Prelude.{ℕ, ◌+◌, ◌≡◌, List, length}
use Rattle.quantity.specs.rules.Answer.{Answer, with}
use Rattle.lent.specs.rules.Put.{room_for, laid}
use Rattle.brundelak_handed.specs.rules.Boundary.{HandedValue}

-- one number: how many stars a whole list has, the offset after a text
abbrev pub HandedNumber : Answer ℕ → ℕ → ℕ → ℕ → Type 0
HandedNumber a n old new = HandedValue a n old new

-- a text put into the slice from an offset on: the offset after it, and the slice
pub record HandedPut (text : Answer (List ℕ)) (slice : List ℕ) (at : ℕ) (n : ℕ) (next : ℕ) (slice' : List ℕ) (next' : ℕ) : Type 0 where
  pub offset_after_lem : HandedNumber (with (λ (t : List ℕ). at + length t) (room_for slice at text)) n next next'
  pub leaves_slice : slice' ≡ laid slice at (room_for slice at text)
