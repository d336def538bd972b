-- A list by its elements' rule: f 0, f 1, .. , n of them.
use Rattle.std.specs.Prelude.{ℕ, zero, suc, List, [], ◌∷◌}

abbrev pub upto : {A : Type 0} → ℕ → (ℕ → A) → List A
upto zero f = []
upto (suc n) f = f zero ∷ upto n (λ (i : ℕ). f (suc i))
