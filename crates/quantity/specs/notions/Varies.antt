-- A rule that answers at two inputs, and not the same.
use Rattle.std.specs.Prelude.{◌≡◌, Bool, true, false, ◌≢◌}
use Rattle.quantity.specs.rules.Answer.{Answer, answered, refused}

abbrev pub is_answered : {A : Type 0} → Answer A → Bool
is_answered (answered x) = true
is_answered (refused n) = false

pub record Varies {A : Type 0} (a b : Answer A) : Type 0 where
  pub here : is_answered a ≡ true
  pub there : is_answered b ≡ true
  pub apart : a ≢ b
