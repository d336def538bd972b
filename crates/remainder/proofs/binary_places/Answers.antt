-- `remainder::binary_places` meets its contract.
use mathlib.Core.Path.{sym}
use Rattle.remainder.specs.laws.Digits.{binary_places_low, binary_places_high}
use Rattle.remainder.proofs.binary_places.Goals as goal

pub returns-then-b-lt4503599627370496 : goal.returns-then-b-lt4503599627370496
returns-then-b-lt4503599627370496 c = sym (binary_places_low _ c.if-b-lt4503599627370496.true)

pub returns : goal.returns
returns c = sym (binary_places_high _)
