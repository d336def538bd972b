-- Texts one after the other: f 0, f 1, .. , n of them.
use Rattle.std.specs.Prelude.{ℕ, zero, suc, List, [], ◌++◌}

abbrev pub texts : ℕ → (ℕ → List ℕ) → List ℕ
texts zero f = []
texts (suc n) f = texts n f ++ f n
