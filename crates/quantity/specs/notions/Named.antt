-- A number that a check can have: 0, or one of the table.
use Rattle.std.specs.Prelude.{◌≡◌, ℕ}
use Rattle.quantity.specs.rules.Answer.{checked, named}

abbrev pub IsNamed : ℕ → Type 0
IsNamed n = checked (named n) ≡ n
