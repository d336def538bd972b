-- A first byte, by what it is: that of stars with yearly changes, that of stars without, or another.
use Rattle.std.specs.Prelude.{ℕ, ◌≡◌, Bool, List, ◌∷◌}
use Rattle.list_radio.specs.rules.Radio.{mark, mark_refusal}

pub data Mark (b : ℕ) : Type 0 where
  is : (moving : Bool) → b ≡ mark moving → Mark b
  other : ((bs : List ℕ) → mark_refusal (b ∷ bs) ≡ 11) → Mark b
