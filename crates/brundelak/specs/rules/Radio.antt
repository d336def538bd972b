-- What a C caller sees of a list over the radio link: its head opened, and a star shown.
use Rattle.std.specs.Prelude.{ℕ, ◌≡◌}
use Rattle.quantity.specs.rules.Answer.{Answer, status_of}
use Rattle.list.specs.declared.Star.{Star}
use Rattle.list_groups.specs.rules.Reading.{AtOffset}
use Rattle.brundelak_handed.specs.rules.Boundary.{kept}

-- the head: how many stars, and the offset of the first
pub record HandedOpened (a : Answer (AtOffset ℕ)) (n : ℕ) (count offset count' offset' : ℕ) : Type 0 where
  pub answers : n ≡ status_of a
  pub leaves_count : count' ≡ kept (λ (x : AtOffset ℕ). x.value) a count
  pub leaves_offset : offset' ≡ kept (λ (x : AtOffset ℕ). x.offset) a offset

-- a star, and the offset after it
pub record HandedReceived (a : Answer (AtOffset Star)) (n : ℕ) (star : Star) (next : ℕ) (star' : Star) (next' : ℕ) : Type 0 where
  pub answers : n ≡ status_of a
  pub leaves_star : star' ≡ kept (λ (x : AtOffset Star). x.value) a star
  pub leaves_next : next' ≡ kept (λ (x : AtOffset Star). x.offset) a next
