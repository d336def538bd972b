-- What the paper gives for an entry of a series.
use Rattle.std.specs.Prelude.{ℕ, ◌%◌, eqb, Float}
use Rattle.std.specs.Float.{binary64}
use Rattle.std.specs.Float.Ieee.{round}

-- 1/d rounded once, minus where n mod 4 = k
abbrev pub entry : ℕ → ℕ → ℕ → Float
entry k n d = round binary64 (eqb (n % 4) k) 1 d
