-- What is known of an answer: P of the values that it has, and Q of the number that it is refused by.
use Rattle.std.specs.Prelude.{ℕ, ◌≡◌, ◌⊎◌}
use Rattle.quantity.specs.rules.Answer.{Answer, answered, refused}

pub record Outcome {A : Type 0} (P : A → Type 0) (Q : ℕ → Type 0) (a : Answer A) : Type 0 where
  pub answers : (v : A) → a ≡ answered v → P v
  pub refuses : (n : ℕ) → a ≡ refused n → Q n

-- ---- numbers that the work meets

abbrev pub Never : ℕ → Type 0
Never n = ⊥

abbrev pub Seven : ℕ → Type 0
Seven n = n ≡ 7

abbrev pub Fourteen : ℕ → Type 0
Fourteen n = n ≡ 14

abbrev pub SixOrSeven : ℕ → Type 0
SixOrSeven n = (n ≡ 6) ⊎ (n ≡ 7)

abbrev pub SevenOrFourteen : ℕ → Type 0
SevenOrFourteen n = (n ≡ 7) ⊎ (n ≡ 14)

abbrev pub FourSevenOrFourteen : ℕ → Type 0
FourSevenOrFourteen n = (n ≡ 4) ⊎ (n ≡ 7) ⊎ (n ≡ 14)
