-- What a walk by the reader shows, each read from the offset that the one before it said.
use Rattle.std.specs.Prelude.{ℕ, zero, suc, List, [], ◌∷◌}
use Rattle.quantity.specs.rules.Answer.{Answer, answered, refused}
use Rattle.list.specs.rules.Reader.{Item, item, none, read_rule}
use Rattle.list.specs.declared.Star.{Star}

abbrev pub walk_on : Answer Item → (ℕ → List Star) → List Star
walk_on (answered (item r next)) on = r ∷ on next
walk_on (answered none) on = []
walk_on (refused n) on = []

-- of at most so many reads, from an offset on
abbrev pub walk : ℕ → List ℕ → ℕ → List Star
walk zero s at = []
walk (suc n) s at = walk_on (read_rule s at) (walk n s)
