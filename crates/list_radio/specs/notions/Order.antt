-- A refusal that comes out of every function that meets it.
use Rattle.std.specs.Prelude.{ℕ, ◌≡◌, List}
use Rattle.quantity.specs.rules.Answer.{refused}
use Rattle.list_radio.specs.rules.Reader.{open_rule, star_at_rule, accept_rule}

-- the first byte: of the head, of a star at any offset, and of the whole list
pub record FirstByteRefused (s : List ℕ) (k : ℕ) : Type 0 where
  pub opened : open_rule s ≡ refused k
  pub received : (at : ℕ) → star_at_rule s at ≡ refused k
  pub accepted : accept_rule s ≡ refused k

-- the count: of the head, and of the whole list
pub record CountRefused (s : List ℕ) (k : ℕ) : Type 0 where
  pub opened : open_rule s ≡ refused k
  pub accepted : accept_rule s ≡ refused k
