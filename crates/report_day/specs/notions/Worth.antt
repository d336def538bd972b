-- What the digits after a point say: a whole number, over ten for each digit.
use Rattle.std.specs.Prelude.{ℕ, ◌+◌, ◌-◌, ◌*◌, ◌^◌, ◌≡◌, List, [], ◌∷◌, length}
use Rattle.text_number.specs.rules.Bytes.{digit0}
use Rattle.report_day.specs.rules.Digits.{whole_day}

unfoldable pub worth : List ℕ → ℕ
worth [] = 0
worth (d ∷ t) = (d - digit0) * 10 ^ length t + worth t

-- so many parts of a day have n digits at most: times 2^n they are whole days
pub record Ends (n parts : ℕ) : Type 0 where
  pub less : ℕ
  pub days : ℕ
  pub is : parts * 2 ^ n + less * whole_day ≡ days * whole_day
