-- Doubles as whole numbers.
use Rattle.std.specs.Prelude.{◌≡◌, ℕ, ◌*◌, ◌/◌, ◌^◌, true, false, T, Float}
use Rattle.std.specs.Float.{nan, inf, fin, binary64}
use Rattle.std.specs.Float.Ieee.{fits, lt, up, down}
use Rattle.double.specs.rules.Operations.{zero}
use Rattle.double.specs.rules.Sign.{bears_minus, is_finite}

-- a finite double that bears no minus sign: +0 is one, −0 is none
pub record IsFromZero (x : Float) : Type 0 where
  pub held : T (fits binary64 x)
  pub finite : is_finite x ≡ true
  pub plus : bears_minus x ≡ false

-- a finite double above zero
pub record IsAboveZero (x : Float) : Type 0 where
  pub held : T (fits binary64 x)
  pub finite : is_finite x ≡ true
  pub above : lt zero x ≡ true

-- A finite double's size: how many times the smallest double, 2^−1074, goes into it. The division is exact for each double.
unfoldable pub count : Float → ℕ
count nan = 0
count (inf s) = 0
count (fin s m e) = m * up e * 2 ^ 1074 / down e
