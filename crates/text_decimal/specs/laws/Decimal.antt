-- Every power of ten that a scan can reach is exact, and the last of them is the widest.
use Rattle.std.specs.Prelude.{◌≡◌, refl}
use Rattle.std.specs.Float.Ieee.{of_bits, mul}
use Rattle.double.specs.rules.Table.{Agrees}
use Rattle.text_decimal.specs.rules.Decimal.{widest}
use Rattle.text_decimal.specs.notions.Scale.{scale_after, powers}

pub powers_exact : Agrees (powers 23)
unfolding of_bits mul
powers_exact = refl

pub widest_reached : widest ≡ scale_after 22
unfolding of_bits mul
widest_reached = refl
