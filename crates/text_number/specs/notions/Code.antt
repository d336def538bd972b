-- A text as one number, by which `apart` tells two of them apart.
use Rattle.std.specs.Prelude.{ℕ, suc, ◌+◌, ◌*◌, List, [], ◌∷◌}

abbrev pub of_text : List ℕ → ℕ
of_text [] = 0
of_text (b ∷ t) = suc b + 256 * of_text t
