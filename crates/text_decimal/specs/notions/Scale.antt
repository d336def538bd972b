-- The powers of ten that a scan reaches.
use Rattle.std.specs.Prelude.{ℕ, zero, suc, ◌*◌, ◌^◌, List, [], ◌∷◌, Float}
use Rattle.std.specs.Float.Ieee.Positive.{num, den}
use Rattle.double.specs.rules.Operations.{one, ◌⊗◌}
use Rattle.double.specs.rules.Table.{Row, ◌is◌}
use Rattle.text_decimal.specs.rules.Decimal.{ten}

-- the scale after so many digits past the point
abbrev pub scale_after : ℕ → Float
scale_after zero = one
scale_after (suc n) = scale_after n ⊗ ten

-- each as a fraction, so many of them
abbrev pub powers : ℕ → List (Row ℕ)
powers zero = []
powers (suc n) = (num (scale_after n) is 10 ^ n * den (scale_after n)) ∷ powers n
