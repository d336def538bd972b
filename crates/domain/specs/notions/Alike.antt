-- Two answers that refuse alike: either is refused by a number exactly where the other is, by the same.
use Rattle.std.specs.Prelude.{ℕ, ◌≡◌}
use Rattle.quantity.specs.rules.Answer.{Answer, refused}

pub record RefusedAlike {A : Type 0} (a b : Answer A) : Type 0 where
  pub there : (n : ℕ) → a ≡ refused n → b ≡ refused n
  pub here : (n : ℕ) → b ≡ refused n → a ≡ refused n
